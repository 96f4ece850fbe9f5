-- What takes the outputs of a run, and how many of its calls failed.
use Rattle.std.specs.Prelude.{ℕ, ◌+◌, ◌^◌, ◌≤◌, ◌<◌, ◌⊎◌, List, [], ◌∷◌, map}
use Rattle.std.specs.List.{All}
use Rattle.sarif_request.specs.declared.wanted.RequestedOutput.{RequestedOutput}
use Rattle.sarif_streams.specs.declared.counted.Counted.{Counted}
use Rattle.sarif_streams.specs.declared.readers.Readers.{Readers}
use Rattle.sarif_streams.specs.Counted.{failed_calls}
use Rattle.sarif_streams.specs.Failing.{NoneFalls}
use Rattle.sarif_streams.specs.OptionalReader.{failed_calls_if}
use Rattle.sarif_program.specs.Reports.{report_failures}
use Rattle.sarif_program.specs.declared.writers.Writers.{Writers}

-- one more failed call of each of these writers can be counted
pub record WritersHaveRoom {W S P : Type 0} (writers : Writers W S P) : Type 0 where
  pub out : failed_calls writers.out < 2 ^ 63
  pub reports : All (λ wanted. failed_calls wanted.to < 2 ^ 63) writers.reports.items
  pub say : failed_calls writers.say < 2 ^ 63

-- how many calls of the writers of a run failed
abbrev pub writer_failures : {W S P : Type 0} → Writers W S P → ℕ
writer_failures writers =
    failed_calls writers.out + report_failures writers.reports.items + failed_calls writers.say

-- the writers of these reports
abbrev pub writers_in : {W : Type 0} → List (RequestedOutput (Counted W)) → List (Counted W)
writers_in reports = map (λ wanted. wanted.to) reports

-- of none of the writers did the number of failed calls fall
pub record NoWriterFalls {W S P : Type 0} (old new : Writers W S P) : Type 0 where
  pub out : failed_calls old.out ≤ failed_calls new.out
  pub reports : NoneFalls (writers_in old.reports.items) (writers_in new.reports.items)
  pub say : failed_calls old.say ≤ failed_calls new.say

-- one of these readers or writers, which are in the same order before and after, has more failed calls than before
abbrev pub OneRises : {D : Type 0} → List (Counted D) → List (Counted D) → Type 0
OneRises [] news = ⊥
OneRises (old ∷ olds) [] = ⊥
OneRises (old ∷ olds) (new ∷ news) = (failed_calls old < failed_calls new) ⊎ OneRises olds news

-- a reader has more failed calls than before
abbrev pub ReaderRises : {R : Type 0} → Readers R → Readers R → Type 0
ReaderRises old new =
    OneRises old.logs.items new.logs.items
    ⊎ (OneRises old.baselines.items new.baselines.items
    ⊎ ((failed_calls_if old.suppressions < failed_calls_if new.suppressions)
    ⊎ ((failed_calls_if old.policy < failed_calls_if new.policy)
    ⊎ (failed_calls_if old.diff < failed_calls_if new.diff))))

-- a writer has more: `out`, a report's writer, or `say`
abbrev pub WriterRises : {W S P : Type 0} → Writers W S P → Writers W S P → Type 0
WriterRises old new =
    (failed_calls old.out < failed_calls new.out)
    ⊎ (OneRises (writers_in old.reports.items) (writers_in new.reports.items)
    ⊎ (failed_calls old.say < failed_calls new.say))
