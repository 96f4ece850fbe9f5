use Rattle.std.proofs.Common.{◌∙◌, ap, rules}
use Rattle.clap.specs.Words.{app_of, with_rule}
use Rattle.sarif_request.proofs.Added.{added}
use Rattle.sarif_request.proofs.command.of_rows.Goals as goal

-- the option of the next row is added
pub loop-row-preserved : goal.loop-row-preserved
loop-row-preserved c =
    let one = c.in_ok-command.ensures.shape c.arg_of.ensures.local
    ∙ ap (with_rule (app_of c.loop-row.command)) c.arg_of.ensures.rule in
    added c.args.levels c.rows-row-items.result.now c.loop-row.row-index _ (app_of c.loop-row.command) _
    (search rules) c.loop-row.invariant one
