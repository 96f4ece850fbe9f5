-- The meaning of a deal and its hands.
use Rattle.std.specs.Prelude.{◌≡◌, ℕ, ◌+◌, Bool, false, List, [], ◌∷◌, ◌++◌, length, Some, slice_get}
use Rattle.std.specs.declared.alloc.Global.{Global}
use Rattle.atomic_table.specs.declared.shared.Seat.{Seat}
use Rattle.atomic_table.specs.declared.owned.Table.{Table}
use Rattle.sarif_dispatch.specs.declared.deal.state.Deal.{Deal}
use Rattle.sarif_dispatch.specs.declared.deal.hand.Hand.{Hand}
use Rattle.sarif_dispatch.specs.declared.deal.rule.Terms.{Terms}
use Rattle.sarif_dispatch.specs.declared.deal.rule.HandView.{HandView}
use Rattle.sarif_dispatch.specs.declared.deal.rule.Dealing.{Dealing}
use Rattle.sarif_dispatch.specs.Claims.{hand_view}

-- the runs that the hand drew, in its order
abbrev pub drawn_by : Hand → List ℕ
drawn_by hand = hand.seat.me.0.drawn

-- the hand drew none
abbrev pub is_marked : Hand → Bool
is_marked hand = hand.spent

abbrev pub runs_dealt : Deal → ℕ
runs_dealt deal = deal.runs

abbrev pub hands_of : Deal → ℕ
hands_of deal = deal.claims.shared.key.hands

-- a seat of this table, which knows its terms
pub record IsSeatOf (claims : Table (Unit {0}) HandView Terms Dealing Global)
    (seat : Seat (Unit {0}) HandView) : Type 0 where
  pub table : seat.table_id ≡ claims.shared.table_id
  pub runs : seat.me.0.runs ≡ claims.shared.key.runs
  pub hands : seat.me.0.hands ≡ claims.shared.key.hands

-- a hand of this deal
abbrev pub IsHandOf : Deal → Hand → Type 0
IsHandOf deal hand = IsSeatOf deal.claims hand.seat

-- all hands of this deal
pub record AreAllHands (deal : Deal) (hands : List Hand) : Type 0 where
  pub each : (i : ℕ) (hand : Hand) → slice_get hands i ≡ Some hand → IsHandOf deal hand
  pub count : length hands ≡ hands_of deal

-- a new deal and all its hands, which drew nothing
pub record AreNewHands (runs hands : ℕ) (deal : Deal) (all : List Hand) : Type 0 where
  pub runs_are : runs_dealt deal ≡ runs
  pub hands_are : hands_of deal ≡ hands
  pub all_of : AreAllHands deal all
  pub fresh : (i : ℕ) (hand : Hand) → slice_get all i ≡ Some hand
      → (drawn_by hand ≡ []) × (is_marked hand ≡ false)

-- what a hand knows once it took in these
abbrev pub joined : HandView → List Hand → HandView
joined v [] = v
joined v (h ∷ hs) =
    joined (hand_view v.runs v.hands
    (v.parts + h.seat.me.0.parts) (v.marks + h.seat.me.0.marks) (v.drawn ++ drawn_by h)) hs
