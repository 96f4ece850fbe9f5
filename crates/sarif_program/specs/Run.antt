-- What one run of a request does.
use Rattle.std.specs.Prelude.{◌≡◌, ◌<◌, ◌≤◌, ◌+◌, ◌^◌, ◌⊎◌, ◌↔◌, ℕ, false, List, Option, None, Some, nat_eq}
use Rattle.std.specs.Io.KnownBytes.{Appends}
use Rattle.std.specs.List.{AllZip}
use Rattle.sarif_counts.specs.Counts.{count_at}
use Rattle.sarif_log.specs.declared.merged.Merged.{Merged}
use Rattle.sarif_merge.specs.FromReaders.{IsMergedWith}
use Rattle.sarif_request.specs.declared.request.Request.{Request}
use Rattle.sarif_program.specs.Summary.{summary_for}
use Rattle.sarif_streams.specs.declared.readers.Readers.{Readers}
use Rattle.sarif_streams.specs.Counted.{failed_calls, inner_of, RisesIf}
use Rattle.sarif_streams.specs.Room.{HaveRoom}
use Rattle.sarif_streams.specs.WereRead.{failures, NoNumberFalls}
use Rattle.sarif_program.specs.declared.complaint.Complaints.{Complaints}
use Rattle.sarif_program.specs.declared.writers.Writers.{Writers}
use Rattle.sarif_program.specs.Lost.{HasLost, Held, texts_of_merge}
use Rattle.sarif_program.specs.Notes.{AreNoted, lines_for}
use Rattle.sarif_program.specs.Rejected.{HasNoMerge, IsRejected, WereFaulty}
use Rattle.sarif_program.specs.Reports.{IsWritten, report_for, reporting_for}
use Rattle.sarif_program.specs.Status.{verdict_status}
use Rattle.sarif_program.specs.Writing.{NoWriterFalls, ReaderRises, WriterRises, WritersHaveRoom, writer_failures}

-- what a reader has left, and what the writers hold, if they say so
pub record Views (R W S P E : Type 0) : Type 0 where
  pub remaining : R → Option (List ℕ)
  pub held : Held W S P E

abbrev pub views_of : {R W S P E : Type 0} → (R → Option (List ℕ)) → (W → Option (List ℕ))
    → (S → Option (List ℕ)) → (P → Option (List ℕ)) → (E → Option (List ℕ)) → Views R W S P E
views_of remaining log summary report messages = record {
  remaining = remaining;
  held = record { log = log; report = report; summary = summary; messages = messages };
}

-- the sources, the outputs and the error messages of a run
pub record Streams (R W S P E : Type 0) : Type 0 where
  pub readers : Readers R
  pub writers : Writers W S P
  pub complaints : Complaints E

abbrev pub streams : {R W S P E : Type 0} → Readers R → Writers W S P → Complaints E
    → Streams R W S P E
streams readers writers complaints =
    record { readers = readers; writers = writers; complaints = complaints }

-- one more failed call of each reader and of each writer can be counted
pub record AllHaveRoom {R W S P E : Type 0} (all : Streams R W S P E) : Type 0 where
  pub readers : HaveRoom all.readers
  pub writers : WritersHaveRoom all.writers
  pub messages : failed_calls all.complaints.out < 2 ^ 63

-- the merge of what was read
abbrev pub IsMergeOf : {R W S P E : Type 0} → Views R W S P E → Request → Streams R W S P E
    → Streams R W S P E → Merged → Type 0
IsMergeOf views request old new merged =
    IsMergedWith views.remaining old.readers new.readers request.options
    (reporting_for request old.writers.reports.items) request.choice (Some request.upkeep) merged

-- the status is that of the verdict of this merge of what was read; the log, the other outputs, the lines on what is
-- for later merges and on what happened, and the summary were written
pub record IsAcceptedAs {R W S P E : Type 0} (views : Views R W S P E) (request : Request)
    (old new : Streams R W S P E) (status : ℕ) (merged : Merged) : Type 0 where
  pub verdict : status ≡ verdict_status merged.verdict
  pub from : IsMergeOf views request old new merged
  pub log : Appends (views.held.log (inner_of old.writers.out))
      (views.held.log (inner_of new.writers.out)) merged.log
  pub reports : AllZip (IsWritten views.held.report (report_for request merged))
      old.writers.reports.items new.writers.reports.items
  pub summary : Appends (views.held.summary (inner_of old.writers.say))
      (views.held.summary (inner_of new.writers.say))
      (summary_for merged.ruling merged.change (count_at merged.counts) request.options.policy)
  pub noted : AreNoted views.held.messages (lines_for request merged)
      old.complaints new.complaints

-- there is such a merge
abbrev pub IsAccepted : {R W S P E : Type 0} → Views R W S P E → Request → Streams R W S P E
    → Streams R W S P E → ℕ → Type 0
IsAccepted views request old new status =
    (merged : Merged) × IsAcceptedAs views request old new status merged

-- there is a merge of what was read, and one of its outputs or its summary was lost
abbrev pub IsCutShort : {R W S P E : Type 0} → Views R W S P E → Request → Streams R W S P E
    → Streams R W S P E → Type 0
IsCutShort views request old new = (merged : Merged) × IsMergeOf views request old new merged
    × HasLost views.held (texts_of_merge request merged) old.writers new.writers
    old.complaints new.complaints

-- no error is reported, and nothing at all if nothing is for later merges, copies are counted and no explanations are
-- requested
pub record IsQuiet {E : Type 0} (request : Request) (old new : Complaints E) : Type 0 where
  pub last : new.last ≡ old.last
  pub silent : request.upkeep.renewal ≡ None → request.upkeep.known ≡ None
      → request.options.checks.once ≡ false → request.explain ≡ false → new ≡ old

-- the status, and what was read, written and reported: the contract of `run_request` as one fact, for what cites it
pub record IsRun {R W S P E : Type 0} (views : Views R W S P E) (request : Request)
    (old new : Streams R W S P E) (status : ℕ) : Type 0 where
  pub accepted : status < 2 → IsAccepted views request old new status
  pub exactly : (status ≡ 3)
      ↔ (ReaderRises old.readers new.readers ⊎ WriterRises old.writers new.writers)
  pub failed : RisesIf (nat_eq status 3) (failures old.readers + writer_failures old.writers)
      (failures new.readers + writer_failures new.writers)
  pub untouched : HasNoMerge status old.readers new.readers → new.writers ≡ old.writers
  pub rejected : HasNoMerge status old.readers new.readers
      → IsRejected views.remaining views.held.messages request
      old.readers new.readers old.complaints new.complaints status
  pub lost : WriterRises old.writers new.writers → IsCutShort views request old new
  pub quiet : status < 2 → IsQuiet request old.complaints new.complaints
  pub risen : NoNumberFalls old.readers new.readers × NoWriterFalls old.writers new.writers
  pub faulty : WereFaulty views.remaining request old.readers new.readers → status ≡ 2
  pub known : status ≤ 3
