-- A list of arrivals at a collector: what is accepted, and the first that is not.
use Rattle.std.specs.Prelude.{◌≡◌, ◌⊎◌, ℕ, List, [], ◌∷◌, take, length, Some, None, slice_get}
use Rattle.sarif_collect.specs.declared.piece.Piece.{Piece}
use Rattle.sarif_collect.specs.declared.piece.Why.{Why}
use Rattle.sarif_collect.specs.declared.piece.Why.TheVariants.{Stranger, AfterClose, Double, Short, OutOfMemory, Unclosed}
use Rattle.sarif_collect.specs.Collecting.{refusal_of, with_piece, all_after}
use Rattle.sarif_collect.specs.Held.{Held, first_open}

module _ {T C : Type 0} where
  -- against no arrival is there a reason
  abbrev pub AllAccepted : List (Held T C) → List (Piece T C) → Type 0
  AllAccepted runs [] = Unit {0}
  AllAccepted runs (piece ∷ pieces) =
      (refusal_of runs piece ≡ None) × AllAccepted (with_piece runs piece) pieces

  -- there is a reason against the arrival at this position, and this is the first one
  abbrev pub RefusesAt : List (Held T C) → List (Piece T C) → ℕ → Why → Type 0
  RefusesAt runs arrivals at why =
      (piece : Piece T C)
      × (slice_get arrivals at ≡ Some piece)
      × (refusal_of (all_after runs (take at arrivals)) piece ≡ Some why)

  -- there is no reason against the arrival at this place
  abbrev pub AcceptsAt : List (Held T C) → List (Piece T C) → ℕ → Type 0
  AcceptsAt runs arrivals at =
      (piece : Piece T C)
      × (slice_get arrivals at ≡ Some piece)
      × (refusal_of (all_after runs (take at arrivals)) piece ≡ None)

  -- what the reason says about the position. If memory ran out, the rejected arrival has no other reason against
  -- it, or no collector was made
  abbrev pub FaultHere : List (Held T C) → List (Piece T C) → ℕ → Why → Type 0
  FaultHere runs arrivals at OutOfMemory = (at ≡ 0) ⊎ AcceptsAt runs arrivals at
  FaultHere runs arrivals at (Unclosed run) =
      (at ≡ length arrivals) × (first_open (all_after runs arrivals) ≡ Some run)
  FaultHere runs arrivals at Stranger = RefusesAt runs arrivals at Stranger
  FaultHere runs arrivals at AfterClose = RefusesAt runs arrivals at AfterClose
  FaultHere runs arrivals at Double = RefusesAt runs arrivals at Double
  FaultHere runs arrivals at Short = RefusesAt runs arrivals at Short

  -- no arrival before this position has a reason against it, and the property is true there
  pub record IsFirstFault (runs : List (Held T C)) (arrivals : List (Piece T C)) (at : ℕ)
      (why : Why) : Type 0 where
    pub before : AllAccepted runs (take at arrivals)
    pub here : FaultHere runs arrivals at why
