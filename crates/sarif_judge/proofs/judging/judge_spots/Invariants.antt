use Rattle.std.proofs.Common.{◌≡◌, map, take}
use Rattle.sarif_runs.specs.Internal.Opened.{placed_of}
use Rattle.sarif_results.specs.Internal.OutcomesAt.{outcome_at}
use Rattle.sarif_judge.proofs.judging.judge_spots.Given as goal

abbrev pub invariant-loop-spot : goal.invariant-loop-spot
invariant-loop-spot l =
    l.outcomes.items ≡ map (outcome_at l.file (map placed_of l.runs)) (take l.spot-index l.spots)
