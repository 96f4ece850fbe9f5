use Rattle.std.proofs.Common.{◌≡◌, ◌++◌, length, replicate}
use Rattle.std.specs.Vec.Iter.{into_iter_items}
use Rattle.sarif_collect.specs.Arriving.{AllAccepted}
use Rattle.sarif_collect.specs.Collecting.{all_after}
use Rattle.sarif_collect.specs.Held.{empty_run}
use Rattle.sarif_collect.proofs.whole.collect.Given as goal

abbrev pub invariant-loop-piece : goal.invariant-loop-piece
invariant-loop-piece g l =
    (goal.iterator-loop-piece g).can_next l.piece-iterator × (goal.iterator-loop-piece g).is_finite l.piece-iterator
    × (l.fn.arrivals.items ≡ l.yielded ++ into_iter_items l.piece-iterator)
    × (l.at ≡ length l.yielded) × (l.collector ≡ all_after (replicate l.fn.runs empty_run) l.yielded) × AllAccepted (replicate l.fn.runs empty_run) l.yielded
