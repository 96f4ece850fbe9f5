-- Input runs and baseline runs whose results have records.
use Rattle.std.specs.Prelude.{◌≡◌, List, flat_map, length}
use Rattle.std.specs.List.{AllByRecursion}
use Rattle.sarif_model.specs.Run.{present, results_of}
use Rattle.sarif_results.specs.Drafts.{IsRun}
use Rattle.sarif_runs.specs.Judging.{records_of, run_values}
use Rattle.sarif_runs.specs.Placed.{Placed}

-- each run and each result is an object, and there is a record for each input result, and for each result of baselines
-- that isn't already absent
pub record HaveRecords (now before : List Placed) : Type 0 where
  pub inputs_are_runs : AllByRecursion IsRun (run_values now)
  pub baselines_are_runs : AllByRecursion IsRun (run_values before)
  pub inputs : length (records_of now) ≡ length (flat_map results_of (run_values now))
  pub baselines : length (records_of before)
      ≡ length (flat_map (λ run. present (results_of run)) (run_values before))
