use Rattle.std.proofs.Common.{◌≡◌, map, take}
use Rattle.sarif_runs.specs.Internal.Opened.{placed_of}
use Rattle.sarif_heard.specs.Heard.{tool_run}
use Rattle.sarif_heard.proofs.tools.tool_runs.Given as goal

abbrev pub invariant-loop-run : goal.invariant-loop-run
invariant-loop-run l = l.made.items ≡ map (λ p. tool_run p.run) (map placed_of (take l.run-index l.runs))
