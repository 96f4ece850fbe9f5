use Rattle.std.proofs.Common.{string_bytes}
use Rattle.std.proofs.lemmas.Result.{IfOk-weaker}
use Rattle.sarif_request.specs.Help.{HasRow}
use Rattle.sarif_request.proofs.Rowed.{gets, keeps}
use Rattle.sarif_request.proofs.command.with_row.Goals as goal

pub returns-in-Some : goal.returns-in-Some
returns-in-Some c =
    let args = c.args in
    IfOk-weaker c.with_row_between.result _ (λ s. HasRow args.row.now args.after.now args.help.now (string_bytes s))
    (λ s is. gets args.row.now args.after.now args.help.now (string_bytes s) c.in-Some.options.now c.in-Some.rest.now c.in-Some.ensures.cases is)
    c.with_row_between.ensures

pub returns-in-None : goal.returns-in-None
returns-in-None c =
    let args = c.args in
    IfOk-weaker c.from_str.result _ (λ s. HasRow args.row.now args.after.now args.help.now (string_bytes s))
    (λ s is. keeps args.row.now args.after.now args.help.now (string_bytes s) c.in-None.ensures.cases is)
    c.from_str.ensures.ok
