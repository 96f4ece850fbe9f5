use Rattle.std.proofs.Common.{◌≡◌, ℕ, ◌<◌, [], Some}
use Rattle.std.specs.Prelude.{slice_get}
use Rattle.std.specs.Vec.Iter.{into_iter_items}
use Rattle.sarif_dispatch.specs.declared.deal.hand.Hand.{Hand}
use Rattle.sarif_dispatch.specs.Hands.{IsSeatOf, joined}
use Rattle.sarif_dispatch.proofs.deal.take_back.Given as goal

abbrev pub invariant-loop-hand : goal.invariant-loop-hand
invariant-loop-hand l =
    (goal.iterator-loop-hand).can_next l.hand-iterator × (goal.iterator-loop-hand).is_finite l.hand-iterator × IsSeatOf l.claims l.all × (l.all.me.1 ≡ [])
    × (0 < l.all.me.0.parts) × (joined l.fn.all.me.0 l.fn.hands.items ≡ joined l.all.me.0 (into_iter_items l.hand-iterator))
    × ((i : ℕ) (hand : Hand) → slice_get (into_iter_items l.hand-iterator) i ≡ Some hand → IsSeatOf l.claims hand.seat)
