-- What is assembled: runs without errors, and the outcomes of all their results.
use Rattle.std.specs.Prelude.{◌≡◌, ◌≤◌, Bool, List, [], map, length}
use Rattle.std.specs.List.{AllByRecursion}
use Rattle.sarif_model.specs.Run.{results_total}
use Rattle.sarif_entries.specs.File.{File}
use Rattle.sarif_runs.specs.Judging.{faults_of_runs, skips, run_values}
use Rattle.sarif_runs.specs.Internal.Opened.{placed_of}
use Rattle.sarif_results.specs.Internal.Outcomes.{all_outcomes}
use Rattle.sarif_runs.specs.Placed.{Placed}
use Rattle.sarif_results.specs.Drafts.{IsRun}
use Rattle.sarif_results.specs.declared.judged.Judged.{Judged}
use Rattle.sarif_model.specs.Limits.{most_results, most_runs}

abbrev pub placed_in : Judged → List Placed
placed_in judged = map placed_of judged.runs.items

-- the runs of logs (false) or of baselines (true), all without errors, with the outcomes of their results
pub record IsJudged (file : File) (baseline : Bool) (judged : Judged) : Type 0 where
  pub outcomes : judged.outcomes.items ≡ all_outcomes file (placed_in judged)
  pub faultless : faults_of_runs (placed_in judged) ≡ []
  pub sources : AllByRecursion (λ p. skips p.source ≡ baseline) (placed_in judged)
  pub objects : AllByRecursion IsRun (run_values (placed_in judged))
  pub few_runs : length (placed_in judged) ≤ most_runs
  pub few_results : results_total (run_values (placed_in judged)) ≤ most_results
