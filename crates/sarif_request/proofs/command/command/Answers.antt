use Rattle.std.proofs.Common.{◌≡◌, ◌∙◌, ap, rules}
use Rattle.std.proofs.lemmas.Result.{IfOk-weaker}
use Rattle.clap.specs.declared.builder.value_parser.ValueParser.TheVariants.{Names}
use Rattle.sarif_reports.specs.Report.{all_reports}
use Rattle.sarif_request.specs.Command.{AreLevels, arguments, program, start, with_arguments, with_reports}
use Rattle.sarif_request.proofs.command.command.Goals as goal

pub returns : goal.returns
unfolding program
returns c =
    let are : AreLevels c.as_slice.result = search rules in
    let same : c.from.result ≡ Names c.as_slice.result = search rules in
    let rows = c.in_ok-of_rows.ensures ∙ ap (λ levels. with_arguments levels start arguments) same in
    IfOk-weaker c.with_reports.result _ _ (λ r h.
    (c.as_slice.result, are, h ∙ ap (λ app. with_reports app all_reports) rows)) c.with_reports.ensures
