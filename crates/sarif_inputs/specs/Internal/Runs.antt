-- The runs of all sources of a merge.
use Rattle.std.specs.Prelude.{◌≡◌, ℕ, ◌≤◌, ◌+◌, List, [], map, length}
use Rattle.sarif_options.specs.declared.checks.Checks.{Checks}
use Rattle.sarif_model.specs.Run.{results_total}
use Rattle.sarif_model.specs.declared.merge_fault.Source.TheVariants.{Log, Baseline}
use Rattle.sarif_runs.specs.Internal.Opened.{placed_of}
use Rattle.sarif_inputs.specs.declared.sources.Runs.{Runs}
use Rattle.sarif_runs.specs.Judging.{run_values}
use Rattle.sarif_inputs.specs.Inputs.{numbered, placed}
use Rattle.sarif_inputs.specs.Internal.ReadSoFar.{sources_of}
use Rattle.sarif_inputs.specs.SourceFaults.{source_faults}
use Rattle.sarif_model.specs.Limits.{most_results, most_runs, most_sources}

-- runs are those of logs and baselines without errors
pub record AreRunsOf (checks : Checks) (logs baselines : List (List ℕ)) (runs : Runs) : Type 0 where
  pub current : map placed_of runs.current.items ≡ placed (numbered checks Log 0 logs)
  pub baseline : map placed_of runs.baseline.items ≡ placed (numbered checks Baseline 0 baselines)
  pub few : length runs.current.items + length runs.baseline.items ≤ most_runs
  pub few_results : results_total (run_values (map placed_of runs.current.items))
      + results_total (run_values (map placed_of runs.baseline.items))
      ≤ most_results
  pub few_logs : length logs ≤ most_sources
  pub few_baselines : length baselines ≤ most_sources
  pub faultless : source_faults 0 0 (sources_of checks logs baselines) ≡ []
