use Rattle.std.proofs.Common.{◌≡◌, ◌+◌, map, drop}
use Rattle.sarif_read.specs.Internal.Indexed.{run_of}
use Rattle.sarif_model.specs.Run.{results_total}
use Rattle.sarif_inputs.proofs.sources.count_results.Given as goal

abbrev pub invariant-loop-run : goal.invariant-loop-run
invariant-loop-run l =
    l.results + results_total (map run_of (drop l.run-index l.runs)) ≡ results_total (map run_of l.runs)
