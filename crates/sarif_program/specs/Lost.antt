-- What a run wrote and reports if one of its outputs was lost.
use Rattle.std.specs.Prelude.{◌≡◌, ◌<◌, ◌⊎◌, ℕ, List, [], ◌∷◌, Option, take}
use Rattle.std.specs.Io.KnownBytes.{Appends}
use Rattle.std.specs.List.{AllZip}
use Rattle.sarif_counts.specs.Counts.{count_at}
use Rattle.sarif_log.specs.declared.merged.Merged.{Merged}
use Rattle.sarif_model.specs.declared.merge_fault.At.TheVariants.{Whole}
use Rattle.sarif_model.specs.declared.merge_fault.Cause.TheVariants.{WriteFailed}
use Rattle.sarif_model.specs.declared.merge_fault.Source.TheVariants.{Output}
use Rattle.sarif_reports.specs.declared.report.Report.{Report}
use Rattle.sarif_request.specs.declared.request.Request.{Request}
use Rattle.sarif_request.specs.declared.wanted.RequestedOutput.{RequestedOutput}
use Rattle.sarif_program.specs.Summary.{summary_for}
use Rattle.sarif_streams.specs.declared.counted.Counted.{Counted}
use Rattle.sarif_streams.specs.Counted.{failed_calls, inner_of}
use Rattle.sarif_program.specs.declared.complaint.Complaint.{Complaint}
use Rattle.sarif_program.specs.declared.complaint.Complaint.TheVariants as complaint
use Rattle.sarif_program.specs.declared.complaint.Complaints.{Complaints}
use Rattle.sarif_program.specs.declared.writers.Writers.{Writers}
use Rattle.sarif_program.specs.declared.writing.Lost.{Lost}
use Rattle.sarif_program.specs.declared.writing.Lost.TheVariants as lost
use Rattle.sarif_program.specs.Line.{HasComplained}
use Rattle.sarif_program.specs.Notes.{AreNoted, lines_for}
use Rattle.sarif_program.specs.Reports.{IsWritten, report_for}

-- what the writers of the log, of another output, of the summary and of error messages hold, if they say so
pub record Held (W S P E : Type 0) : Type 0 where
  pub log : W → Option (List ℕ)
  pub report : P → Option (List ℕ)
  pub summary : S → Option (List ℕ)
  pub messages : E → Option (List ℕ)

-- what an accepted merge writes
pub record MergeTexts : Type 0 where
  pub log : List ℕ
  pub report : Report → List ℕ
  pub lines : List ℕ
  pub summary : List ℕ

abbrev pub texts_of_merge : Request → Merged → MergeTexts
texts_of_merge request merged = record {
  log = merged.log;
  report = report_for request merged;
  lines = lines_for request merged;
  summary = summary_for merged.ruling merged.change (count_at merged.counts) request.options.policy;
}

-- a call of this writer failed, and the writer received a prefix of its text
pub record IsCut {W : Type 0} (contents : W → Option (List ℕ)) (text : List ℕ)
    (old new : Counted W) : Type 0 where
  pub rose : failed_calls old < failed_calls new
  pub part : (n : ℕ)
      × Appends (contents (inner_of old)) (contents (inner_of new)) (take n text)

-- an output of a list was lost: those before it received their text, and those after it are unchanged
abbrev pub IsLostIn : {W : Type 0} → (W → Option (List ℕ)) → (Report → List ℕ)
    → List (RequestedOutput (Counted W)) → List (RequestedOutput (Counted W)) → Report → Type 0
IsLostIn contents told [] news lost = ⊥
IsLostIn contents told (old ∷ olds) [] lost = ⊥
IsLostIn contents told (old ∷ olds) (new ∷ news) lost =
    ((lost ≡ old.report) × (new.report ≡ old.report)
    × IsCut contents (told old.report) old.to new.to × (news ≡ olds))
    ⊎ (IsWritten contents told old new × IsLostIn contents told olds news lost)

-- the merged log was lost, and nothing else was written
pub record IsLogLost {W S P : Type 0} (contents : W → Option (List ℕ)) (log : List ℕ)
    (old new : Writers W S P) : Type 0 where
  pub cut : IsCut contents log old.out new.out
  pub reports : new.reports ≡ old.reports
  pub say : new.say ≡ old.say

-- this other output was lost: the merged log and the outputs before it were written, and nothing else
pub record IsReportLost {W S P : Type 0} (contents : W → Option (List ℕ))
    (contents_of : P → Option (List ℕ)) (text : List ℕ) (told : Report → List ℕ)
    (old new : Writers W S P) (lost : Report) : Type 0 where
  pub log : Appends (contents (inner_of old.out)) (contents (inner_of new.out)) text
  pub reports : IsLostIn contents_of told old.reports.items new.reports.items lost
  pub say : new.say ≡ old.say

-- an output was lost: those before it were written, and those after it and the summary are unchanged
abbrev pub IsLostAt : {W S P : Type 0} → (W → Option (List ℕ)) → (P → Option (List ℕ))
    → List ℕ → (Report → List ℕ) → Writers W S P → Writers W S P → Lost → Type 0
IsLostAt contents contents_of log told old new lost.Log = IsLogLost contents log old new
IsLostAt contents contents_of log told old new (lost.Report report) =
    IsReportLost contents contents_of log told old new report

-- the error message on it
abbrev pub complaint_of : Lost → Complaint
complaint_of lost.Log = complaint.Fault (record { at = Whole Output; cause = WriteFailed })
complaint_of (lost.Report report) = complaint.Lost report

-- the summary was lost, after all outputs were written
pub record IsSummaryLost {W S P E : Type 0} (held : Held W S P E) (texts : MergeTexts)
    (old new : Writers W S P) : Type 0 where
  pub log : Appends (held.log (inner_of old.out)) (held.log (inner_of new.out)) texts.log
  pub reports : AllZip (IsWritten held.report texts.report) old.reports.items new.reports.items
  pub cut : IsCut held.summary texts.summary old.say new.say

-- what an accepted merge did if an output was lost, which the last error message names; or if the summary was, and then
-- no error was reported
abbrev pub HasLost : {W S P E : Type 0} → Held W S P E → MergeTexts → Writers W S P → Writers W S P
    → Complaints E → Complaints E → Type 0
HasLost held texts old new complaints after =
    ((lost : Lost) × IsLostAt held.log held.report texts.log texts.report old new lost
    × HasComplained held.messages (complaint_of lost) complaints after)
    ⊎ (IsSummaryLost held texts old new
    × AreNoted held.messages texts.lines complaints after)
