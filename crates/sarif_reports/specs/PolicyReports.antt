-- The reports of results that the conditions of a policy report.
use Rattle.std.specs.Prelude.{◌≡◌, ℕ, List}
use Rattle.std.specs.List.{Contains}
use Rattle.serde_json.specs.Data.{Data}
use Rattle.sarif_findings.specs.Reported.{reported_of}
use Rattle.sarif_findings.specs.declared.finding.Finding.{Finding}
use Rattle.sarif_findings.specs.declared.reporting.Reporting.{Reporting}
use Rattle.sarif_shown.specs.Listed.{listed}
use Rattle.sarif_shown.specs.declared.stopping.Stopping.TheVariants.{MarkedHit}
use Rattle.sarif_reports.specs.JunitReport.{junit_document}

-- the finding of a result of this log, made in this way except for what it does to the gate
abbrev pub IsFindingOf : Reporting → Data → Finding → Type 0
IsFindingOf reporting log f =
    (g : Finding) × Contains (reported_of reporting log) g × (f ≡ record g { impact = f.impact })

-- the report in JUnit XML of such findings
abbrev pub document_of_policy : List Finding → List ℕ
document_of_policy findings = junit_document MarkedHit (listed findings)
