use Rattle.std.proofs.Common.{◌∙◌, ◌++◌, List, ap, arith, get_or}
use Rattle.clap.specs.Words.{Text, first_of, found_of, rows_of}
use Rattle.sarif_reports.specs.declared.report.Report.{Report}
use Rattle.sarif_reports.specs.declared.report.Report.TheVariants.{Suppressions}
use Rattle.sarif_reports.specs.Report.{all_reports, report_name}
use Rattle.sarif_request.specs.declared.wanted.RequestedOutput.{RequestedOutput}
use Rattle.sarif_request.specs.Words.{wanted_if}
use Rattle.sarif_request.proofs.WantedMore.{wanted_more}
use Rattle.sarif_request.proofs.words.reports_of.Goals as goal

-- the output after the ones gone through is added if it is requested
pub loop-report-preserved : goal.loop-report-preserved
loop-report-preserved c =
    let i = c.loop-report.report-index in
    let f : Report → List (RequestedOutput Text) = λ report. wanted_if report (first_of (report_name report) (rows_of (found_of c.args.matches.now))) in
    c.in_ok-push_wanted.ensures
    ∙ ap (λ (items : List (RequestedOutput Text)). items ++ f (get_or all_reports i Suppressions)) c.loop-report.invariant
    ∙ wanted_more f all_reports i Suppressions (omega arith)
