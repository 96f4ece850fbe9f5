use Rattle.std.proofs.Common.{◌∙◌, ◌-◌, sym, ap}
use Rattle.sarif_explain.specs.Internal.Diff.{first_line, past_lines}
use Rattle.sarif_explain.proofs.DiffMore.{past_lines-more, past_lines-none}
use Rattle.sarif_explain.proofs.diff.line_at.Goals as goal

pub loop-left-preserved : goal.loop-left-preserved
loop-left-preserved c =
    let left = c.loop-left.left in
    ap (past_lines (left - 1 - 1)) c.past_line-rest.ensures
    ∙ sym (past_lines-more left c.loop-left.rest.now c.loop-left-test.true) ∙ c.loop-left.invariant

pub returns : goal.returns
returns c =
    c.first_line.ensures
    ∙ ap first_line (sym (past_lines-none c.loop-left.left c.loop-left.rest.now c.loop-left-test.false) ∙ c.loop-left.invariant)
