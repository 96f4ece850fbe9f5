use Rattle.std.proofs.Common.{◌≡◌, take}
use Rattle.std.specs.List.{flat_map}
use Rattle.clap.specs.Words.{first_of, found_of, rows_of}
use Rattle.sarif_reports.specs.Report.{all_reports, report_name}
use Rattle.sarif_request.specs.Words.{wanted_if}
use Rattle.sarif_request.proofs.words.reports_of.Given as goal

-- the reports gone through are there if they are requested
abbrev pub invariant-loop-report : goal.invariant-loop-report
invariant-loop-report l = l.reports.items
    ≡ flat_map (λ report. wanted_if report (first_of (report_name report) (rows_of (found_of l.matches)))) (take l.report-index all_reports)
