use Rattle.std.proofs.Common.{◌≡◌, ◌++◌, map, drop}
use Rattle.std.specs.Prelude.{slice_index_or}
use Rattle.sarif_copies.proofs.apart.pick_each.Given as goal

abbrev pub invariant-loop-number : goal.invariant-loop-number
invariant-loop-number l =
    l.picked.items ++ map (λ n. slice_index_or l.counts n 0) (drop l.number-index l.numbers)
    ≡ map (λ n. slice_index_or l.counts n 0) l.numbers
