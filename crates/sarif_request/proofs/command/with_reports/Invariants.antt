use Rattle.std.proofs.Common.{◌≡◌, take}
use Rattle.clap.specs.Words.{app_of}
use Rattle.sarif_reports.specs.Report.{all_reports}
use Rattle.sarif_request.specs.Command.{with_reports}
use Rattle.sarif_request.proofs.command.with_reports.Given as goal

-- the command has an option for each of the reports gone through
abbrev pub invariant-loop-report : goal.invariant-loop-report
invariant-loop-report l =
    app_of l.command ≡ with_reports (app_of l.fn.command) (take l.report-index all_reports)
