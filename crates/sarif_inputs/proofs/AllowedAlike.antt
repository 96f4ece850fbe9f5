-- If each source is read alike, the runs and the errors of the inputs are the same, whether external property files are
-- allowed or not.
use Rattle.std.proofs.Common.{◌≡◌, ℕ, ◌+◌, ◌++◌, true, false, List, [], ◌∷◌, length, refl, sym, ap, ap₂, ◌∙◌}
use Rattle.std.specs.List.{AllByRecursion}
use Rattle.std.specs.Prelude.{is_some}
use Rattle.serde_json.specs.Data.{Data}
use Rattle.sarif_options.specs.declared.checks.Checks.{Checks}
use Rattle.sarif_model.specs.Run.{results_total}
use Rattle.sarif_model.specs.declared.merge_fault.Source.{Source}
use Rattle.sarif_model.specs.declared.merge_fault.Source.TheVariants.{Log, Baseline, Suppress, Policy, Diff, Output, Known}
use Rattle.sarif_runs.specs.Judging.{faults_of_runs, run_values}
use Rattle.sarif_runs.specs.Placed.{Placed}
use Rattle.sarif_inputs.specs.Internal.Allowing.{IsReadAlike, allowing, checks_allowing}
use Rattle.sarif_inputs.specs.ChangeIn.{change_read, faults_of_change}
use Rattle.sarif_inputs.specs.Faults.{faults_of, file_faults, number_faults}
use Rattle.sarif_entries.specs.Given.{file_or_none}
use Rattle.sarif_inputs.specs.Inputs.{Inputs, all_sources, baseline_runs, input_runs, numbered, placed, placed_from, readable, reading_checks, run_options}
use Rattle.sarif_inputs.specs.PolicyIn.{faults_of_policy, policy_read}
use Rattle.sarif_inputs.specs.SourceFaults.{limit_faults, reading_faults, source_faults}
use Rattle.sarif_inputs.proofs.SourceSteps.{faults_append}

module _ (checks : Checks) where
  abbrev with_files : Checks
  with_files = checks_allowing true checks

  abbrev without_files : Checks
  without_files = checks_allowing false checks

  options_alike : (source : Source) → run_options with_files source ≡ run_options without_files source
  options_alike (Log k) = refl
  options_alike (Baseline k) = refl
  options_alike Suppress = refl
  options_alike Policy = refl
  options_alike Diff = refl
  options_alike Output = refl
  options_alike Known = refl

  placed_alike : (source : Source) (n : ℕ) (runs : List Data) → placed_from with_files source n runs ≡ placed_from without_files source n runs
  placed_alike source n [] = refl
  placed_alike source n (run ∷ runs) =
      λ i. record { source = source; number = n; options = options_alike source i; run = run } ∷ placed_alike source (n + 1) runs i

  pub runs_alike : (name : ℕ → Source) (n : ℕ) (sources : List (List ℕ)) → AllByRecursion IsReadAlike sources
      → placed (numbered with_files name n sources) ≡ placed (numbered without_files name n sources)
  runs_alike name n [] alike = refl
  runs_alike name n (bytes ∷ rest) alike =
      ap₂ (λ here later. here ++ later)
      (ap (λ read. placed_from with_files (name n) 0 (readable read)) alike.0 ∙ placed_alike (name n) 0 _)
      (runs_alike name (n + 1) rest alike.1)

  pub faults_alike : (name : ℕ → Source) (n runs results : ℕ) (sources : List (List ℕ)) → AllByRecursion IsReadAlike sources
      → source_faults runs results (numbered with_files name n sources) ≡ source_faults runs results (numbered without_files name n sources)
  faults_alike name n runs results [] alike = refl
  faults_alike name n runs results (bytes ∷ rest) alike =
      λ i.
      (reading_faults (name n) (alike.0 i)
      ++ limit_faults (name n) (runs + length (readable (alike.0 i))) (results + results_total (readable (alike.0 i))))
      ++ faults_alike name (n + 1) (runs + length (readable (alike.0 i))) (results + results_total (readable (alike.0 i))) rest alike.1 i

pub current_alike : (inputs : Inputs) → AllByRecursion IsReadAlike inputs.logs → input_runs (allowing true inputs) ≡ input_runs (allowing false inputs)
current_alike inputs alike = runs_alike (reading_checks inputs) Log 0 inputs.logs alike

pub baseline_alike : (inputs : Inputs) → AllByRecursion IsReadAlike inputs.baselines
    → baseline_runs (allowing true inputs) ≡ baseline_runs (allowing false inputs)
baseline_alike inputs alike = runs_alike (reading_checks inputs) Baseline 0 inputs.baselines alike

sources_alike : (inputs : Inputs) → AllByRecursion IsReadAlike inputs.logs → AllByRecursion IsReadAlike inputs.baselines
    → source_faults 0 0 (all_sources (allowing true inputs)) ≡ source_faults 0 0 (all_sources (allowing false inputs))
sources_alike inputs logs baselines =
    let with_f = checks_allowing true (reading_checks inputs) in
    let without_f = checks_allowing false (reading_checks inputs) in
    let current = current_alike inputs logs in
    faults_append 0 0 (numbered with_f Log 0 inputs.logs) (numbered with_f Baseline 0 inputs.baselines)
    ∙ ap₂ (λ here later. here ++ later)
    (faults_alike (reading_checks inputs) Log 0 0 0 inputs.logs logs)
    (ap (λ (ps : List Placed). source_faults (0 + length ps) (0 + results_total (run_values ps)) (numbered with_f Baseline 0 inputs.baselines)) current
    ∙ faults_alike (reading_checks inputs) Baseline 0 _ _ inputs.baselines baselines)
    ∙ sym (faults_append 0 0 (numbered without_f Log 0 inputs.logs) (numbered without_f Baseline 0 inputs.baselines))

pub all_alike : (inputs : Inputs) → AllByRecursion IsReadAlike inputs.logs → AllByRecursion IsReadAlike inputs.baselines
    → faults_of (allowing true inputs) ≡ faults_of (allowing false inputs)
all_alike inputs logs baselines =
    λ i. number_faults Log inputs.logs
    ++ (number_faults Baseline inputs.baselines
    ++ (sources_alike inputs logs baselines i
    ++ (file_faults (file_or_none inputs.suppressions inputs.today)
    ++ (faults_of_policy (policy_read (is_some inputs.diff) inputs.policy)
    ++ (faults_of_change (change_read inputs.checks inputs.diff)
    ++ faults_of_runs (current_alike inputs logs i ++ baseline_alike inputs baselines i))))))
