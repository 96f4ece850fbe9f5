-- Which rejections of a merge say that a read or a write failed, and how many calls failed.
use Rattle.std.specs.Prelude.{◌≤◌, ℕ, List, [], ◌∷◌, ⊤, Bool, false, Result, Ok, Err}
use Rattle.std.specs.List.{sum_by}
use Rattle.sarif_streams.specs.declared.counted.Counted.{Counted}
use Rattle.sarif_streams.specs.declared.readers.ReadersFault.{ReadersFault}
use Rattle.sarif_streams.specs.Counted.{failed_calls}
use Rattle.sarif_streams.specs.Source.{is_failed_read}
use Rattle.sarif_model.specs.declared.refusal.Refusal.{Refusal}
use Rattle.sarif_model.specs.declared.refusal.Refusal.TheVariants as refusal

-- how many calls of these readers failed, all together
abbrev pub failed_calls_in : {R : Type 0} → List (Counted R) → ℕ
failed_calls_in readers = sum_by failed_calls readers

-- of none of these readers did that number fall
abbrev pub NoneFalls : {R : Type 0} → List (Counted R) → List (Counted R) → Type 0
NoneFalls [] [] = ⊤
NoneFalls [] (new ∷ news) = ⊥
NoneFalls (old ∷ olds) [] = ⊥
NoneFalls (old ∷ olds) (new ∷ news) = (failed_calls old ≤ failed_calls new) × NoneFalls olds news

-- whether the sources were not all read since a read failed
abbrev pub reading_has_failed : {T : Type 0} → Result T (Refusal ReadersFault) → Bool
reading_has_failed (Ok v) = false
reading_has_failed (Err (refusal.Fault found)) = is_failed_read found.fault
reading_has_failed (Err refusal.OutOfMemory) = false
