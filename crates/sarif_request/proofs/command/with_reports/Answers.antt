use Rattle.std.proofs.Common.{◌∙◌, [], ◌∷◌, ap, ap₂, arith, get_or, sym, take}
use Rattle.std.proofs.lemmas.List.{take_more}
use Rattle.std.proofs.lemmas.List.Sums.{fold-append}
use Rattle.clap.specs.Words.{App, app_of, with_rule}
use Rattle.sarif_reports.specs.declared.report.Report.{Report}
use Rattle.sarif_reports.specs.declared.report.Report.TheVariants.{Suppressions}
use Rattle.sarif_reports.specs.Report.{all_reports, report_name}
use Rattle.sarif_request.specs.Command.{option_rule, with_reports}
use Rattle.sarif_request.proofs.command.with_reports.Goals as goal

-- the report after the ones gone through adds its rule
pub loop-report-preserved : goal.loop-report-preserved
loop-report-preserved c =
    let i = c.loop-report.report-index in
    let before = app_of c.args.command in
    let more = take_more all_reports i Suppressions (omega arith) in
    let one = c.in_ok-command.ensures.shape c.report_option.ensures.local
    ∙ ap₂ with_rule c.loop-report.invariant c.report_option.ensures.rule in
    one
    ∙ sym (ap (with_reports before) more
    ∙ fold-append (λ (a : App) (report : Report). with_rule a (option_rule (report_name report))) before (take i all_reports)
    (get_or all_reports i Suppressions ∷ []))
