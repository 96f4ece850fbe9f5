-- Logs and baselines that are read as others without some of their results, in version 2: without regions.
use Rattle.std.proofs.Common.{◌≡◌, ◌+◌, ◌||◌, ℕ, false, Bool, List, [], ◌∷◌, ◌++◌, map, length, take, drop, refl, sym, ap, ap₂, ◌∙◌}
use Rattle.std.proofs.lemmas.List.{map-append}
use Rattle.serde_json.specs.Data.{Data}
use Rattle.sarif_evidence.specs.declared.version.MatchingVersion.TheVariants.{Two}
use Rattle.sarif_model.specs.declared.merge_fault.Source.{Source}
use Rattle.sarif_model.specs.declared.merge_fault.Source.TheVariants.{Baseline, Log}
use Rattle.sarif_model.specs.Run.{results_of, results_total}
use Rattle.sarif_options.specs.declared.checks.Checks.{Checks}
use Rattle.sarif_read.specs.Unmarked.{without_marked}
use Rattle.sarif_runs.specs.Judging.{faults_of_runs, run_values}
use Rattle.sarif_runs.specs.Unmarked.{runs_without}
use Rattle.sarif_once.specs.Once.{copy_marks, without_copies}
use Rattle.sarif_once.proofs.Faults.{none_faulty}
use Rattle.sarif_inputs.specs.Faults.{faults_of}
use Rattle.sarif_inputs.specs.Inputs.{Inputs, baseline_runs, input_runs, looks_at_regions, must_succeed, numbered, placed, placed_from, readable}
use Rattle.sarif_inputs_laws.proofs.Parts.{apart_faults}
use Rattle.sarif_laws_once.specs.Places.{values_without}
use Rattle.sarif_laws_once.specs.TakenOut.{AreReadWithout, AreWithoutCopies, counting_each}
use Rattle.sarif_known_laws.proofs.BareRecords.{placed_bare}
use Rattle.sarif_laws_once.proofs.BareRecords.{all_faults_bare}
use Rattle.sarif_laws_once.proofs.ReadWithout.{from_values, none_with, plain, seam, whole}

module _ (checks : Checks) (snippets : Bool) (two : checks.matching ≡ Two) (unread : snippets ≡ false) where
  from_bare : (source : Source) → must_succeed (plain checks snippets) source ≡ must_succeed (whole checks snippets) source → (n : ℕ) (marks : List Bool) (runs : List Data)
      → placed_from (plain checks snippets) source n (values_without marks runs) ≡ map placed_bare (runs_without marks (placed_from (whole checks snippets) source n runs))
  from_bare source must n marks [] = refl
  from_bare source must n marks (run ∷ runs) =
      let k = length (results_of run) in
      (λ i. record {
        source = source;
        number = n;
        options = record {
          must_succeed = must i;
          records = record { regions = looks_at_regions (two i) || (unread i || false); ignored = checks.ignored };
        };
        run = without_marked (take k marks) run;
      } ∷ from_bare source must (n + 1) (drop k marks) runs i)

  module _ (name : ℕ → Source) (must : (n : ℕ) → must_succeed (plain checks snippets) (name n) ≡ must_succeed (whole checks snippets) (name n)) where
    sources_bare : (n : ℕ) (marks : List Bool) (those these : List (List ℕ)) → AreReadWithout checks.allow_external marks those these
        → placed (numbered (plain checks snippets) name n these) ≡ map placed_bare (runs_without marks (placed (numbered (whole checks snippets) name n those)))
    sources_bare n marks [] [] same = refl
    sources_bare n marks [] (y ∷ ys) same = absurd same
    sources_bare n marks (x ∷ xs) [] same = absurd same
    sources_bare n marks (x ∷ xs) (y ∷ ys) same =
        let runs = same.0 in
        let ps = placed_from (whole checks snippets) (name n) 0 runs in
        let rest = placed (numbered (whole checks snippets) name (n + 1) xs) in
        ap₂ (λ r more. placed_from (plain checks snippets) (name n) 0 (readable r) ++ more) same.2
        (sources_bare (n + 1) (drop (results_total runs) marks) xs ys same.3)
        ∙ ap₂ (λ l m. l ++ map placed_bare (runs_without (drop (results_total m) marks) rest)) (from_bare (name n) (must n) 0 marks runs)
        (sym (from_values (whole checks snippets) (name n) 0 runs))
        ∙ sym (map-append placed_bare (runs_without marks ps) (runs_without (drop (results_total (run_values ps)) marks) rest))
        ∙ ap (map placed_bare) (sym (seam marks ps rest))
        ∙ ap (λ r. map placed_bare (runs_without marks (placed_from (whole checks snippets) (name n) 0 (readable r) ++ rest))) (sym same.1)

module _ (inputs : Inputs) (logs baselines : List (List ℕ)) (none : faults_of inputs ≡ []) (two : inputs.checks.matching ≡ Two) (unread : inputs.snippets ≡ false)
    (read : AreWithoutCopies inputs logs baselines) where
  pub bare_now : input_runs (counting_each inputs logs baselines) ≡ map placed_bare (without_copies (input_runs inputs))
  bare_now = sources_bare inputs.checks inputs.snippets two unread Log (λ n. refl) 0 (copy_marks (input_runs inputs)) inputs.logs logs read.current

  pub bare_before : baseline_runs (counting_each inputs logs baselines) ≡ map placed_bare (without_copies (baseline_runs inputs))
  bare_before = sources_bare inputs.checks inputs.snippets two unread Baseline (λ n. refl) 0 (copy_marks (baseline_runs inputs)) inputs.baselines baselines read.before

  pub none_there_bare : faults_of (counting_each inputs logs baselines) ≡ []
  none_there_bare =
      let fine = apart_faults inputs none in
      none_with inputs logs baselines none read
      (ap faults_of_runs bare_now ∙ all_faults_bare (without_copies (input_runs inputs))
      ∙ none_faulty (copy_marks (input_runs inputs)) (input_runs inputs) fine.log_runs)
      (ap faults_of_runs bare_before ∙ all_faults_bare (without_copies (baseline_runs inputs))
      ∙ none_faulty (copy_marks (baseline_runs inputs)) (baseline_runs inputs) fine.older_runs)
