-- What reading sources from readers does to each of them.
use Rattle.std.specs.Prelude.{◌≡◌, ℕ, ◌+◌, List, [], ◌∷◌, ◌⊎◌, ⊤, Option, IfSome}
use Rattle.std.specs.Io.KnownBytes.{Consumes, IsAtEnd}
use Rattle.sarif_streams.specs.declared.counted.Counted.{Counted}
use Rattle.sarif_model.specs.declared.merge_fault.Source.{Source}
use Rattle.sarif_streams.specs.declared.readers.ReadersFault.{ReadersFault}
use Rattle.sarif_streams.specs.declared.source.SourceFault.{SourceFault}
use Rattle.sarif_streams.specs.declared.source.SourceFault.TheVariants.{ReadFailed, TooLong}
use Rattle.sarif_model.specs.declared.refusal.Refusal.{Refusal}
use Rattle.sarif_model.specs.declared.refusal.Refusal.TheVariants as refusal
use Rattle.sarif_streams.specs.Counted.{inner_of, failed_calls}
use Rattle.sarif_streams.specs.Source.{IsWithinLimit, IsPastLimit}

-- the reader returned exactly these bytes and is at its end, and none of its calls failed; `remaining` is what a
-- reader has left, if it says so
abbrev pub IsRead : {R : Type 0} → (R → Option (List ℕ)) → Counted R → Counted R → List ℕ → Type 0
IsRead remaining old new bytes =
    Consumes (remaining (inner_of old)) (remaining (inner_of new)) bytes
    × IsAtEnd (remaining (inner_of new))
    × IsWithinLimit bytes
    × (failed_calls new ≡ failed_calls old)

-- each of the readers did
abbrev pub AreRead : {R : Type 0} → (R → Option (List ℕ))
    → List (Counted R) → List (Counted R) → List (List ℕ) → Type 0
AreRead remaining [] [] [] = ⊤
AreRead remaining [] [] (bytes ∷ rest) = ⊥
AreRead remaining [] (new ∷ news) all = ⊥
AreRead remaining (old ∷ olds) [] all = ⊥
AreRead remaining (old ∷ olds) (new ∷ news) [] = ⊥
AreRead remaining (old ∷ olds) (new ∷ news) (bytes ∷ rest) =
    IsRead remaining old new bytes × AreRead remaining olds news rest

-- a read failed, which is counted; or the source is too long, which is true if it says so
abbrev pub HasFailed : {R : Type 0} → (R → Option (List ℕ))
    → Counted R → Counted R → SourceFault → Type 0
HasFailed remaining old new ReadFailed = failed_calls new ≡ failed_calls old + 1
HasFailed remaining old new TooLong =
    (failed_calls new ≡ failed_calls old) × IfSome (remaining (inner_of old)) IsPastLimit

-- why reading this source ended: it has failed, or memory ran out
abbrev pub HasStopped : {R : Type 0} → (R → Option (List ℕ)) → Source
    → Counted R → Counted R → Refusal ReadersFault → Type 0
HasStopped remaining source old new (refusal.Fault found) =
    (found.source ≡ source) × HasFailed remaining old new found.fault
HasStopped remaining source old new refusal.OutOfMemory = failed_calls new ≡ failed_calls old

-- reading the sources, from number n on, ended at one of them: those before it were read, those after it untouched
abbrev pub StopsIn : {R : Type 0} → (R → Option (List ℕ)) → (ℕ → Source) → ℕ
    → List (Counted R) → List (Counted R) → Refusal ReadersFault → Type 0
StopsIn remaining name n [] news fault = ⊥
StopsIn remaining name n (old ∷ olds) [] fault = ⊥
StopsIn remaining name n (old ∷ olds) (new ∷ news) fault =
    (HasStopped remaining (name n) old new fault × (news ≡ olds))
    ⊎ (((bytes : List ℕ) × IsRead remaining old new bytes)
    × StopsIn remaining name (n + 1) olds news fault)
