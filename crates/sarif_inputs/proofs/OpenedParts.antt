-- The runs of all sources, taken apart into those of logs and those of baselines.
use Rattle.std.proofs.Common.{◌≡◌, ◌≤◌, ◌+◌, ℕ, List, [], take, drop, map, length, length-append, arith, sym, ap, ◌∙◌}
use Rattle.std.proofs.lemmas.List.{length-map, map-append, take-map, drop-map}
use Rattle.sarif_options.specs.declared.checks.Checks.{Checks}
use Rattle.sarif_model.specs.Run.{results_total}
use Rattle.sarif_model.specs.declared.merge_fault.Source.TheVariants.{Log, Baseline}
use Rattle.sarif_runs.specs.declared.opened.OpenedRun.{OpenedRun}
use Rattle.sarif_runs.specs.Internal.Opened.{placed_of}
use Rattle.sarif_runs.specs.Placed.{Placed}
use Rattle.sarif_inputs.specs.declared.sources.Runs.{Runs}
use Rattle.sarif_runs.specs.Judging.{run_values}
use Rattle.sarif_inputs.specs.Inputs.{numbered, placed}
use Rattle.sarif_inputs.specs.Internal.ReadSoFar.{sources_of}
use Rattle.sarif_inputs.specs.Internal.Runs.{AreRunsOf}
use Rattle.sarif_inputs.specs.SourceFaults.{source_faults}
use Rattle.sarif_inputs.proofs.ReadFacts.{placed-append, front, back}
use Rattle.sarif_inputs.proofs.SourceRuns.{total_append}
use Rattle.sarif_model.specs.Limits.{most_results, most_runs, most_sources}

module _ (checks : Checks) (ls bs : List (List ℕ)) (all : List OpenedRun) (n : ℕ)
    (are : map placed_of all ≡ placed (sources_of checks ls bs)) (count : n ≡ length (placed (numbered checks Log 0 ls))) where
  pub logs_within : n ≤ length all
  logs_within =
      let both = ap length (are ∙ placed-append (numbered checks Log 0 ls) (numbered checks Baseline 0 bs))
      ∙ length-append (placed (numbered checks Log 0 ls)) (placed (numbered checks Baseline 0 bs)) in
      omega (arith, both, count, length-map all placed_of)

  pub runs_of_logs : map placed_of (take n all) ≡ placed (numbered checks Log 0 ls)
  runs_of_logs = sym (take-map placed_of n all) ∙ front (map placed_of all) n (numbered checks Log 0 ls) (numbered checks Baseline 0 bs) are count

  pub runs_of_baselines : map placed_of (drop n all) ≡ placed (numbered checks Baseline 0 bs)
  runs_of_baselines = sym (drop-map placed_of n all) ∙ back (map placed_of all) n (numbered checks Log 0 ls) (numbered checks Baseline 0 bs) are count

  few_in_parts : length all ≤ most_runs → length (take n all) + length (drop n all) ≤ most_runs
  few_in_parts few =
      let both = ap length (are ∙ placed-append (numbered checks Log 0 ls) (numbered checks Baseline 0 bs))
      ∙ length-append (placed (numbered checks Log 0 ls)) (placed (numbered checks Baseline 0 bs)) in
      let logs = ap length runs_of_logs in
      let baselines = ap length runs_of_baselines in
      omega (arith, few, both, logs, baselines, length-map all placed_of, length-map (take n all) placed_of, length-map (drop n all) placed_of)

  results_in_parts : results_total (run_values (map placed_of all)) ≤ most_results
      → results_total (run_values (map placed_of (take n all))) + results_total (run_values (map placed_of (drop n all))) ≤ most_results
  results_in_parts few =
      let now = placed (numbered checks Log 0 ls) in
      let before = placed (numbered checks Baseline 0 bs) in
      let both = ap (λ ps. results_total (run_values ps)) (are ∙ placed-append (numbered checks Log 0 ls) (numbered checks Baseline 0 bs))
      ∙ ap results_total (map-append (λ (p : Placed). p.run) now before) ∙ total_append (run_values now) (run_values before) in
      let logs = ap (λ ps. results_total (run_values ps)) runs_of_logs in
      let baselines = ap (λ ps. results_total (run_values ps)) runs_of_baselines in
      omega (arith, few, both, logs, baselines)

  -- the two parts are the runs of logs and of baselines
  pub are_runs : (runs : Runs) → runs.current.items ≡ take n all → runs.baseline.items ≡ drop n all
      → length all ≤ most_runs → results_total (run_values (map placed_of all)) ≤ most_results
      → length ls ≤ most_sources → length bs ≤ most_sources → source_faults 0 0 (sources_of checks ls bs) ≡ []
      → AreRunsOf checks ls bs runs
  are_runs runs first second few few_results few_ls few_bs none = record {
    current = ap (map placed_of) first ∙ runs_of_logs;
    baseline = ap (map placed_of) second ∙ runs_of_baselines;
    few = rw (first, second) (few_in_parts few);
    few_results = rw (first, second) (results_in_parts few_results);
    few_logs = few_ls;
    few_baselines = few_bs;
    faultless = none;
  }
