-- What one run's step does to all runs.
use Rattle.std.proofs.Common.{◌≡◌, ℕ, zero, suc, ◌<◌, List, [], ◌∷◌, map, length, set, get_or, Some, None, Result, Ok, Err, refl, sym, ap, ◌∙◌}
use Rattle.std.specs.Prelude.{slice_get, OnOk, IfErr}
use Rattle.std.proofs.lemmas.List.{map-set}
use Rattle.std.proofs.lemmas.Option.{slice_get_read, slice_get-map}
use Rattle.std.specs.Prelude.{option_map}
use Rattle.sarif_collect.specs.declared.piece.Piece.{Piece}
use Rattle.sarif_collect.specs.declared.piece.Refused.{Refused}
use Rattle.sarif_collect.specs.Held.{Held}
use Rattle.sarif_collect.specs.Piece.{run_in}
use Rattle.sarif_collect.specs.Collecting.{refusal_at, refusal_in, refusal_of, step_at, set_in, with_piece, IsReason}

pub set_same : {A : Type 0} (xs : List A) (i : ℕ) (x : A) → slice_get xs i ≡ Some x → set xs i x ≡ xs
set_same [] i x at = refl
set_same (y ∷ ys) zero x at = ap (λ z. z ∷ ys) (sym (cc))
set_same (y ∷ ys) (suc i) x at = ap (λ zs. y ∷ zs) (set_same ys i x at)

-- A step on the slot i, which holds `old`, is the step on the run that the piece names
module _ {S T C : Type 0} (held : S → Held T C) (xs : List S) (runs : List (Held T C)) (is : map held xs ≡ runs) (piece : Piece T C) (i : ℕ)
    (run : i ≡ run_in piece) (within : i < length xs) (old : S) (at : old ≡ get_or xs i old) where
  there : slice_get runs (run_in piece) ≡ Some (held old)
  there = ap (λ r. slice_get r (run_in piece)) (sym is) ∙ slice_get-map held xs (run_in piece)
      ∙ ap (option_map held) (ap (slice_get xs) (sym run) ∙ slice_get_read xs (length xs) i old refl within at)

  refusal_there : refusal_of runs piece ≡ refusal_at (held old) piece
  refusal_there = ap (λ o. refusal_in o piece) there

  taken_there : (new : S) → held new ≡ step_at (held old) piece → map held (set xs i new) ≡ with_piece runs piece
  taken_there new step = map-set held xs i new ∙ (λ j. set (is j) (run j) (step j)) ∙ sym (ap (λ o. set_in runs o piece) there)

  same_there : (new : S) → new ≡ old → map held (set xs i new) ≡ runs
  same_there new same = map-set held xs i new ∙ (λ j. set (is j) (run j) (held (same j))) ∙ set_same runs (run_in piece) (held old) there

  pub taken : (r : Result (Unit {0}) (Refused T C)) (new : S) → OnOk r ((refusal_at (held old) piece ≡ None) × (held new ≡ step_at (held old) piece))
      → OnOk r ((refusal_of runs piece ≡ None) × (map held (set xs i new) ≡ with_piece runs piece))
  taken (Ok u) new h = (refusal_there ∙ h.0, taken_there new h.1)
  taken (Err e) new h = tt

  pub same : (r : Result (Unit {0}) (Refused T C)) (new : S) → IfErr r (λ e. (new ≡ old) × (e.piece ≡ piece))
      → IfErr r (λ e. (map held (set xs i new) ≡ runs) × (e.piece ≡ piece))
  same (Ok u) new h = tt
  same (Err e) new h = (same_there new h.0, h.1)

  pub why : (r : Result (Unit {0}) (Refused T C)) → IfErr r (λ e. IsReason (refusal_at (held old) piece) e.why)
      → IfErr r (λ e. IsReason (refusal_of runs piece) e.why)
  why (Ok u) h = tt
  why (Err e) h = rw refusal_there h
