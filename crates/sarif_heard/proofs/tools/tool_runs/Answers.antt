use Rattle.std.proofs.Common.{map, ap, ◌∙◌, arith, take_all}
use Rattle.sarif_runs.specs.Internal.Opened.{placed_of}
use Rattle.sarif_heard.specs.Heard.{tool_run}
use Rattle.sarif_heard.proofs.ToolsRead.{tools_are}
use Rattle.sarif_heard.proofs.tools.tool_runs.Goals as goal

pub returns : goal.returns
returns c =
    let runs = c.args.runs.now in
    c.loop-run.invariant ∙ ap (λ rs. map (λ p. tool_run p.run) (map placed_of rs)) (take_all c.loop-run.run-index runs (omega (arith, c.loop-run-test.false)))
    ∙ tools_are (map placed_of runs)
