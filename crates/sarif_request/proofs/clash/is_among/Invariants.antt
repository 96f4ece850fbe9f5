use Rattle.std.proofs.Common.{◌≡◌, map, drop}
use Rattle.sarif_request.specs.Names as said
use Rattle.sarif_request.proofs.clash.is_among.Given as goal

-- none of the reports gone through has the name
abbrev pub invariant-loop-report : goal.invariant-loop-report
invariant-loop-report l = said.is_among l.name (map (λ report. report.to) (drop l.report-index l.reports))
    ≡ said.is_among l.name (map (λ report. report.to) l.reports)
