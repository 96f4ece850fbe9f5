use Rattle.std.proofs.Common.{◌≡◌, ℕ, ◌+◌, ◌-◌, [], false, vec_len, Some}
use Rattle.std.specs.Prelude.{slice_get}
use Rattle.std.specs.Vec.{vec_capacity}
use Rattle.sarif_dispatch.specs.declared.deal.hand.Hand.{Hand}
use Rattle.sarif_dispatch.specs.Claims.{hand_view}
use Rattle.sarif_dispatch.specs.Hands.{IsSeatOf, drawn_by, is_marked}
use Rattle.sarif_dispatch.proofs.deal.state.Deal.new.Given as goal

abbrev pub invariant-loop : goal.invariant-loop
invariant-loop l =
    (vec_len l.all + 1 ≡ l.counter) × (vec_capacity l.all ≡ l.hands) × IsSeatOf l.claims l.first × (l.first.me.1 ≡ [])
    × (l.first.me.0 ≡ hand_view l.runs l.hands (l.hands - (l.counter - 1)) 0 [])
    × ((i : ℕ) (hand : Hand) → slice_get l.all.items i ≡ Some hand → IsSeatOf l.claims hand.seat × (drawn_by hand ≡ []) × (is_marked hand ≡ false))
