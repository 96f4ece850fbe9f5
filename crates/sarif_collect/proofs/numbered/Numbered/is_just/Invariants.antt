use Rattle.std.proofs.Common.{◌≡◌}
use Rattle.sarif_collect.specs.Numbers.{counts_up}
use Rattle.sarif_collect.proofs.numbered.Numbered.is_just.Given as goal

abbrev pub invariant-loop-seq : goal.invariant-loop-seq
invariant-loop-seq g l =
    (goal.iterator-loop-seq g).can_next l.seq-iterator × (goal.iterator-loop-seq g).is_finite l.seq-iterator
    × (counts_up 0 l.count l.self ≡ counts_up l.next l.count l.seq-iterator)
