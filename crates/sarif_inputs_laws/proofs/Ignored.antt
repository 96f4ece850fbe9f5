-- Inputs without the fingerprints that a merge ignores.
use Rattle.std.proofs.Common.{◌≡◌, ◌+◌, ◌≤◌, ◌||◌, ℕ, suc, List, [], ◌∷◌, ◌++◌, length, map, refl, sym, ap, ap₂, ◌∙◌, arith}
use Rattle.std.specs.List.{AllZip}
use Rattle.std.proofs.lemmas.List.{length-map, map-append}
use Rattle.serde_json.specs.Data.{Data}
use Rattle.sarif_model.specs.declared.merge_fault.Source.{Source}
use Rattle.sarif_model.specs.declared.merge_fault.Source.TheVariants.{Baseline, Log}
use Rattle.sarif_model.specs.Run.{results_total}
use Rattle.sarif_match.specs.Partners.{partners_in}
use Rattle.sarif_options.specs.declared.checks.Checks.{Checks}
use Rattle.sarif_read.specs.Reading.{log_of}
use Rattle.sarif_runs.specs.Judging.{faults_of_runs, records_of}
use Rattle.sarif_runs_laws.specs.Ignoring.{run_without, without_ignored}
use Rattle.sarif_runs_laws.proofs.Runs.{as_many_results, read_without}
use Rattle.sarif_inputs.specs.Faults.{faults_of}
use Rattle.sarif_inputs.specs.Inputs.{Inputs, Sourced, baseline_runs, input_runs, looks_at_regions, must_succeed, numbered, placed, placed_from, readable, reading_checks, runs_in}
use Rattle.sarif_inputs.specs.SourceFaults.{limit_faults, reading_faults, source_faults}
use Rattle.sarif_inputs_laws.specs.Ignoring.{AreReadWithout, HasSameRecords, IsReadWithout, ignoring_none}
use Rattle.sarif_inputs_laws.specs.Parts.{baseline_in, current_in}
use Rattle.sarif_inputs_laws.proofs.Parts.{all_faults, apart_faults}
use Rattle.sarif_inputs_laws.proofs.Renumbered.{both_empty, none_both, zip_append}
use Rattle.sarif_inputs_laws.proofs.Sources.{fewer_limits, fewer_sources, here}

-- ---- sources with as many runs and results

pub record IsAsLarge (x y : Sourced) : Type 0 where
  pub reading : reading_faults y.source (log_of y.checks.allow_external y.bytes) ≡ []
  pub runs : length (runs_in y) ≡ length (runs_in x)
  pub results : results_total (runs_in y) ≡ results_total (runs_in x)

as_large : (runs results : ℕ) (xs ys : List Sourced) → AllZip IsAsLarge xs ys → source_faults runs results xs ≡ [] → source_faults runs results ys ≡ []
as_large runs results [] [] same none = refl
as_large runs results [] (y ∷ ys) same none = absurd same
as_large runs results (x ∷ xs) [] same none = absurd same
as_large runs results (x ∷ xs) (y ∷ ys) same none =
    let one = same.0 in
    let many : length (runs_in y) ≡ length (runs_in x) = one.runs in
    let total : results_total (runs_in y) ≡ results_total (runs_in x) = one.results in
    let now = runs + length (runs_in x) in
    let all = results + results_total (runs_in x) in
    let parts = both_empty (here runs results x) (source_faults now all xs) none in
    let first = both_empty (reading_faults x.source (log_of x.checks.allow_external x.bytes)) (limit_faults x.source now all) parts.0 in
    let few_runs : runs + length (runs_in y) ≤ now = omega (arith, many) in
    let few_results : results + results_total (runs_in y) ≤ all = omega (arith, total) in
    none_both (here runs results y) (source_faults (runs + length (runs_in y)) (results + results_total (runs_in y)) ys)
    (none_both (reading_faults y.source (log_of y.checks.allow_external y.bytes))
    (limit_faults y.source (runs + length (runs_in y)) (results + results_total (runs_in y))) one.reading
    (fewer_limits x.source y.source now all (runs + length (runs_in y)) (results + results_total (runs_in y)) few_runs few_results first.1))
    (ap₂ (λ m n. source_faults m n ys) (ap (λ k. runs + k) many) (ap (λ k. results + k) total) ∙ as_large now all xs ys same.1 parts.1)

as_many : (names : List (List ℕ)) (runs : List Data) → results_total (map (run_without names) runs) ≡ results_total runs
as_many names [] = refl
as_many names (run ∷ runs) = ap₂ (λ m n. m + n) (as_many_results names run) (as_many names runs)

zip_long : {X : Type 0} (R : X → X → Type 0) (xs ys : List X) → AllZip R xs ys → length ys ≡ length xs
zip_long R [] [] same = refl
zip_long R [] (y ∷ ys) same = absurd same
zip_long R (x ∷ xs) [] same = absurd same
zip_long R (x ∷ xs) (y ∷ ys) same = ap suc (zip_long R xs ys same.1)

-- ---- sources without fingerprints

module _ (checks : Checks) where
  abbrev plain : Checks
  plain = record checks { ignored = [] }

  abbrev Without : List ℕ → List ℕ → Type 0
  Without = IsReadWithout checks.allow_external checks.ignored

  from_without : (source : Source) → must_succeed plain source ≡ must_succeed checks source → (n : ℕ) (runs : List Data)
      → placed_from plain source n (map (run_without checks.ignored) runs) ≡ map without_ignored (placed_from checks source n runs)
  from_without source must n [] = refl
  from_without source must n (run ∷ runs) =
      (λ i. record {
        source = source;
        number = n;
        options = record { must_succeed = must i; records = record { regions = looks_at_regions checks.matching || checks.once; ignored = [] } };
        run = run_without checks.ignored run;
      } ∷ from_without source must (n + 1) runs i)

  module _ (name : ℕ → Source) (must : (n : ℕ) → must_succeed plain (name n) ≡ must_succeed checks (name n)) where
    placed_without : (n : ℕ) (those these : List (List ℕ)) → AllZip Without those these
        → placed (numbered plain name n these) ≡ map without_ignored (placed (numbered checks name n those))
    placed_without n [] [] same = refl
    placed_without n [] (y ∷ ys) same = absurd same
    placed_without n (x ∷ xs) [] same = absurd same
    placed_without n (x ∷ xs) (y ∷ ys) same =
        let runs = same.0.0 in
        let rest = placed (numbered checks name (n + 1) xs) in
        ap₂ (λ r more. placed_from plain (name n) 0 (readable r) ++ more) same.0.2 (placed_without (n + 1) xs ys same.1)
        ∙ ap (λ l. l ++ map without_ignored rest) (from_without (name n) (must n) 0 runs)
        ∙ sym (map-append without_ignored (placed_from checks (name n) 0 runs) rest)
        ∙ ap (λ r. map without_ignored (placed_from checks (name n) 0 (readable r) ++ rest)) (sym same.0.1)

    large_without : (n : ℕ) (those these : List (List ℕ)) → AllZip Without those these
        → AllZip IsAsLarge (numbered checks name n those) (numbered plain name n these)
    large_without n [] [] same = tt
    large_without n [] (y ∷ ys) same = absurd same
    large_without n (x ∷ xs) [] same = absurd same
    large_without n (x ∷ xs) (y ∷ ys) same =
        let runs = same.0.0 in (
          record {
            reading = ap (reading_faults (name n)) same.0.2;
            runs = ap (λ r. length (readable r)) same.0.2 ∙ length-map runs (run_without checks.ignored) ∙ sym (ap (λ r. length (readable r)) same.0.1);
            results = ap (λ r. results_total (readable r)) same.0.2 ∙ as_many checks.ignored runs ∙ sym (ap (λ r. results_total (readable r)) same.0.1);
          },
          large_without (n + 1) xs ys same.1,
        )

-- ---- the law

pub ignored_missing : (inputs : Inputs) (logs baselines : List (List ℕ)) → faults_of inputs ≡ [] → AreReadWithout inputs inputs.logs logs
    → AreReadWithout inputs inputs.baselines baselines → HasSameRecords inputs (ignoring_none inputs logs baselines)
ignored_missing inputs logs baselines none same older =
    let checks = reading_checks inputs in
    let fine = apart_faults inputs none in
    let now : input_runs (ignoring_none inputs logs baselines) ≡ map without_ignored (input_runs inputs) =
    placed_without checks Log (λ n. refl) 0 inputs.logs logs same in
    let before : baseline_runs (ignoring_none inputs logs baselines) ≡ map without_ignored (baseline_runs inputs) =
    placed_without checks Baseline (λ n. refl) 0 inputs.baselines baselines older in
    let read_now = read_without (input_runs inputs) fine.log_runs in
    let read_before = read_without (baseline_runs inputs) fine.older_runs in
    let current : current_in (ignoring_none inputs logs baselines) ≡ current_in inputs = ap records_of now ∙ read_now.records in
    let baseline : baseline_in (ignoring_none inputs logs baselines) ≡ baseline_in inputs = ap records_of before ∙ read_before.records in
    let long = zip_long (IsReadWithout checks.allow_external checks.ignored) inputs.logs logs same in
    let older_long = zip_long (IsReadWithout checks.allow_external checks.ignored) inputs.baselines baselines older in record {
      faultless = all_faults (ignoring_none inputs logs baselines) (record {
        logs = fewer_sources Log inputs.logs logs (omega (arith, long)) fine.logs;
        baselines = fewer_sources Baseline inputs.baselines baselines (omega (arith, older_long)) fine.baselines;
        sources = as_large 0 0 (numbered checks Log 0 inputs.logs ++ numbered checks Baseline 0 inputs.baselines)
            (numbered (plain checks) Log 0 logs ++ numbered (plain checks) Baseline 0 baselines)
            (zip_append IsAsLarge (numbered checks Log 0 inputs.logs) (numbered (plain checks) Log 0 logs)
            (numbered checks Baseline 0 inputs.baselines) (numbered (plain checks) Baseline 0 baselines)
            (large_without checks Log (λ n. refl) 0 inputs.logs logs same)
            (large_without checks Baseline (λ n. refl) 0 inputs.baselines baselines older))
            fine.sources;
        file = fine.file;
        policy = fine.policy;
        change = fine.change;
        log_runs = ap faults_of_runs now ∙ read_now.faultless;
        older_runs = ap faults_of_runs before ∙ read_before.faultless;
      });
      current = current;
      baseline = baseline;
      partners = ap₂ (partners_in checks.matching) current baseline;
    }
