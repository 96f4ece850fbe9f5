-- The outputs of a run besides the merged log, and that they were written.
use Rattle.std.specs.Prelude.{◌≡◌, ℕ, List, Option, Some, None, map, option_map, if◌then◌else◌}
use Rattle.std.specs.Io.KnownBytes.{Appends}
use Rattle.std.specs.List.{AllZip, list_any, sum_by}
use Rattle.sarif_log.specs.declared.facts.Facts.{Facts as MergeFacts}
use Rattle.sarif_log.specs.declared.merged.Merged.{Merged}
use Rattle.sarif_counts.specs.Counts.{count_at}
use Rattle.sarif_reports.specs.declared.report.Report.{Report}
use Rattle.sarif_findings.specs.declared.reporting.Reporting.{Reporting}
use Rattle.sarif_shown.specs.Facts.{Facts}
use Rattle.sarif_reports.specs.Report.{needs_findings, report_of}
use Rattle.sarif_streams.specs.declared.counted.Counted.{Counted}
use Rattle.sarif_streams.specs.Counted.{failed_calls, inner_of}
use Rattle.sarif_request.specs.declared.request.Request.{Request}
use Rattle.sarif_request.specs.declared.wanted.RequestedOutput.{RequestedOutput}

-- what the findings for a request are made by
abbrev pub reporting_of : Request → Reporting
reporting_of request = record {
  policy = request.options.policy;
  show = request.show;
  roots = request.roots.items;
}

-- the outputs of such a list
abbrev pub wanted_reports : {W : Type 0} → List (RequestedOutput W) → List Report
wanted_reports writers = map (λ wanted. wanted.report) writers

-- the findings of a merge whose outputs have these writers: none if no output needs them
abbrev pub reporting_for : {W : Type 0} → Request → List (RequestedOutput W) → Option Reporting
reporting_for request writers =
    if list_any needs_findings (wanted_reports writers) then Some (reporting_of request) else None

-- what the outputs of a merge with these facts are made from
abbrev pub facts_with : Request → MergeFacts → Facts
facts_with request facts = record {
  count = count_at facts.counts.now;
  policy = request.options.policy;
  show = request.show;
  link = request.link;
  findings = facts.findings.now.items;
  without = facts.without;
  unused = facts.unused;
  life = Some facts.life.now;
  change = facts.change;
  ruling = option_map (λ ruling. ruling.now) facts.ruling;
}

-- what the outputs of this merge are made from
abbrev pub facts_for : Request → Merged → Facts
facts_for request merged = record {
  count = count_at merged.counts;
  policy = request.options.policy;
  show = request.show;
  link = request.link;
  findings = merged.findings.items;
  without = merged.without;
  unused = merged.unused;
  life = Some merged.life;
  change = merged.change;
  ruling = merged.ruling;
}

-- the text of an output of a merge with these facts
abbrev pub report_with : Request → MergeFacts → Report → List ℕ
report_with request facts one = report_of one (facts_with request facts)

-- the text of an output of this merge
abbrev pub report_for : Request → Merged → Report → List ℕ
report_for request merged one = report_of one (facts_for request merged)

-- the contents of the outputs that there are writers for
abbrev pub texts_for : {W : Type 0} → List (RequestedOutput W) → (Report → List ℕ) → List (List ℕ)
texts_for writers told = map (λ wanted. told wanted.report) writers

-- the writer of an output got its text
pub record IsWritten {W : Type 0} (contents : W → Option (List ℕ)) (told : Report → List ℕ)
    (old new : RequestedOutput (Counted W)) : Type 0 where
  pub report : new.report ≡ old.report
  pub appended : Appends (contents (inner_of old.to)) (contents (inner_of new.to))
      (told old.report)

-- each writer received its contents: if these are those of its output, each output was written
abbrev pub AreTaken : {W : Type 0} → (W → Option (List ℕ)) → List (List ℕ)
    → List (RequestedOutput (Counted W)) → List (RequestedOutput (Counted W)) → Type 0
AreTaken contents texts old new = (told : Report → List ℕ) → texts ≡ texts_for old told
    → AllZip (IsWritten contents told) old new

-- how many calls of these writers failed
abbrev pub report_failures : {W : Type 0} → List (RequestedOutput (Counted W)) → ℕ
report_failures writers = sum_by (λ wanted. failed_calls wanted.to) writers
