-- What a collector does with a piece: it takes it in, or there is a reason against it.
use Rattle.std.specs.Prelude.{◌≡◌, ℕ, if◌then◌else◌, List, [], ◌∷◌, Option, Some, None, slice_get, slice_set}
use Rattle.std.specs.Ordering.{nat_cmp}
use Rattle.std.specs.BTreeMap.{insert_entry}
use Rattle.sarif_collect.specs.declared.piece.Piece.{Piece}
use Rattle.sarif_collect.specs.declared.piece.Piece.TheVariants.{Item, Close}
use Rattle.sarif_collect.specs.declared.piece.Why.{Why}
use Rattle.sarif_collect.specs.declared.piece.Why.TheVariants.{Stranger, AfterClose, Double, Short, OutOfMemory}
use Rattle.sarif_collect.specs.Held.{Held}
use Rattle.sarif_collect.specs.Numbers.{has_number, counts_up}
use Rattle.sarif_collect.specs.Piece.{run_in}

module _ {T C : Type 0} where
  -- the reason against a piece of an open run with these bodies
  abbrev pub refusal_of_open : List (ℕ × T) → Piece T C → Option Why
  refusal_of_open bodies (Item run seq body) = if has_number seq bodies then Some Double else None
  refusal_of_open bodies (Close run count tail) =
      if counts_up 0 count bodies then None else Some Short

  abbrev pub refusal_by_tail : Option C → List (ℕ × T) → Piece T C → Option Why
  refusal_by_tail (Some tail) bodies piece = Some AfterClose
  refusal_by_tail None bodies piece = refusal_of_open bodies piece

  -- the reason against a piece of this run
  abbrev pub refusal_at : Held T C → Piece T C → Option Why
  refusal_at run piece = refusal_by_tail run.tail run.bodies piece

  -- the run with the piece
  abbrev pub step_at : Held T C → Piece T C → Held T C
  step_at h (Item run seq body) =
      record { bodies = insert_entry nat_cmp h.bodies seq body; tail = h.tail }
  step_at h (Close run count tail) = record { bodies = h.bodies; tail = Some tail }

  abbrev pub refusal_in : Option (Held T C) → Piece T C → Option Why
  refusal_in None piece = Some Stranger
  refusal_in (Some run) piece = refusal_at run piece

  abbrev pub set_in : List (Held T C) → Option (Held T C) → Piece T C → List (Held T C)
  set_in runs None piece = runs
  set_in runs (Some run) piece = slice_set runs (run_in piece) (step_at run piece)

  -- the first reason against a piece, if there is one
  abbrev pub refusal_of : List (Held T C) → Piece T C → Option Why
  refusal_of runs piece = refusal_in (slice_get runs (run_in piece)) piece

  -- the runs with the piece
  abbrev pub with_piece : List (Held T C) → Piece T C → List (Held T C)
  with_piece runs piece = set_in runs (slice_get runs (run_in piece)) piece

-- the reported reason: the first that applies, or, if there is none, that memory ran out
abbrev pub IsReason : Option Why → Why → Type 0
IsReason None why = why ≡ OutOfMemory
IsReason (Some reason) why = why ≡ reason

module _ {T C : Type 0} where
  -- a run after its pieces
  abbrev pub run_after : Held T C → List (Piece T C) → Held T C
  run_after run [] = run
  run_after run (piece ∷ pieces) = run_after (step_at run piece) pieces

  -- all runs after these pieces
  abbrev pub all_after : List (Held T C) → List (Piece T C) → List (Held T C)
  all_after runs [] = runs
  all_after runs (piece ∷ pieces) = all_after (with_piece runs piece) pieces
