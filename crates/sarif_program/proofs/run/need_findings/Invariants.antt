use Rattle.std.proofs.Common.{◌≡◌, drop}
use Rattle.std.specs.List.{list_any}
use Rattle.sarif_reports.specs.Report.{needs_findings}
use Rattle.sarif_program.specs.Reports.{wanted_reports}
use Rattle.sarif_program.proofs.run.need_findings.Given as goal

-- none of the outputs gone through needs findings
abbrev pub invariant-loop-wanted : goal.invariant-loop-wanted
invariant-loop-wanted g l = list_any needs_findings (wanted_reports (drop l.wanted-index l.writers))
    ≡ list_any needs_findings (wanted_reports l.writers)
