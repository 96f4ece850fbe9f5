-- What runs say about their tools, in order.
use Rattle.std.proofs.Common.{◌≡◌, List, [], ◌∷◌, map, refl, ap}
use Rattle.sarif_runs.specs.Judging.{run_values}
use Rattle.sarif_runs.specs.Placed.{Placed}
use Rattle.sarif_heard.specs.Heard.{tool_run}

pub tools_are : (runs : List Placed) → map (λ p. tool_run p.run) runs ≡ map tool_run (run_values runs)
tools_are [] = refl
tools_are (p ∷ ps) = ap (λ l. tool_run p.run ∷ l) (tools_are ps)
