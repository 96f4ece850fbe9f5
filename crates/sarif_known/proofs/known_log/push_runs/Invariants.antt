use Rattle.std.proofs.Common.{◌≡◌, ◌++◌, drop, map}
use Rattle.sarif_known.specs.Chosen.{all_chosen, run_as}
use Rattle.sarif_known.specs.KnownRun.{known_run}
use Rattle.sarif_known.specs.Internal.Tokens.{each_tokens}
use Rattle.sarif_known.proofs.known_log.push_runs.Given as goal

abbrev pub invariant-loop-run : goal.invariant-loop-run
invariant-loop-run l = l.out ++ each_tokens (map known_run (map (run_as l.regions) (all_chosen (drop l.run-index l.runs))))
    ≡ l.initial.out ++ each_tokens (map known_run (map (run_as l.regions) (all_chosen l.runs)))
