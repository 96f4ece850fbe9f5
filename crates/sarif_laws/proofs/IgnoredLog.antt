-- The log of a merge that ignores fingerprints, and the log of the same inputs without them.
use Rattle.std.proofs.Common.{◌≡◌, ℕ, ◌+◌, List, [], ◌∷◌, ◌++◌, map, refl, sym, ap, ap₂, ◌∙◌}
use Rattle.std.specs.List.{AllZip}
use Rattle.std.proofs.lemmas.List.{map-append}
use Rattle.serde_json.specs.Data.{Data}
use Rattle.sarif_model.specs.declared.merge_fault.Source.{Source}
use Rattle.sarif_model.specs.declared.merge_fault.Source.TheVariants.{Baseline, Log}
use Rattle.sarif_model.specs.declared.record.Record.{Record}
use Rattle.sarif_evidence.specs.declared.version.MatchingVersion.{MatchingVersion}
use Rattle.sarif_options.specs.declared.checks.Checks.{Checks}
use Rattle.sarif_options.specs.declared.policy.Policy.{Policy}
use Rattle.sarif_read.specs.Reading.{log_of}
use Rattle.sarif_counts.specs.CountOf.{count_of}
use Rattle.sarif_counts.specs.Gate.{gate_of}
use Rattle.sarif_counts.specs.Hits.{verdict_of}
use Rattle.sarif_suppress.specs.Limited.{limited}
use Rattle.sarif_suppress.specs.Suppressing.{unused_of}
use Rattle.sarif_runs.specs.Judging.{run_values}
use Rattle.sarif_runs.specs.Placed.{Placed}
use Rattle.sarif_runs_laws.specs.Ignoring.{run_without}
use Rattle.sarif_inputs.specs.Faults.{faults_of}
use Rattle.sarif_inputs.specs.Inputs.{Inputs, baseline_runs, input_runs, numbered, placed, placed_from, readable, reading_checks}
use Rattle.sarif_inputs.proofs.SourceRuns.{data_placed}
use Rattle.sarif_inputs_laws.specs.Ignoring.{AreReadWithout, HasSameRecords, IsReadWithout, ignoring_none}
use Rattle.sarif_inputs_laws.proofs.Ignored.{ignored_missing}
use Rattle.sarif_results.specs.Drafts.{Listing}
use Rattle.sarif_log.specs.LogBy.{listing_of, log_by, runs_without_results, states_of, taken_of}
use Rattle.sarif_log.specs.MergedRuns.{absent_runs, merged_runs}
use Rattle.sarif_merge.specs.MergedLog.{current_of, file_given, limited_of, runs_written, unused_in, without_of, written_inputs}
use Rattle.sarif_merge.specs.OwnResult.{baseline_of}
use Rattle.sarif_laws.specs.Ignored.{LacksIgnored, gate_in, log_of_all}
use Rattle.sarif_laws.specs.NextMerge.{absent_written}
use Rattle.sarif_laws.specs.Sums.{counts_in}
use Rattle.sarif_laws.proofs.RunsWithout.{absent_without, bare_without, count_without, merged_without}

-- ---- the runs of sources without fingerprints

module _ (checks : Checks) (name : ℕ → Source) where
  abbrev plain : Checks
  plain = record checks { ignored = [] }

  abbrev less : Data → Data
  less run = run_without checks.ignored run

  abbrev read : List ℕ → List Data
  read bytes = readable (log_of checks.allow_external bytes)

  values_without : (n : ℕ) (those these : List (List ℕ)) → AllZip (IsReadWithout checks.allow_external checks.ignored) those these
      → run_values (placed (numbered plain name n these)) ≡ map less (run_values (placed (numbered checks name n those)))
  values_without n [] [] same = refl
  values_without n [] (y ∷ ys) same = absurd same
  values_without n (x ∷ xs) [] same = absurd same
  values_without n (x ∷ xs) (y ∷ ys) same =
      let runs = same.0.0 in
      let rest = placed (numbered checks name (n + 1) xs) in
      let there : run_values (placed_from checks (name n) 0 (read x) ++ rest) ≡ runs ++ run_values rest =
      map-append (λ (p : Placed). p.run) (placed_from checks (name n) 0 (read x)) rest
      ∙ ap (λ l. l ++ run_values rest) (data_placed checks (name n) 0 (read x) ∙ ap readable same.0.1) in
      map-append (λ (p : Placed). p.run) (placed_from plain (name n) 0 (read y)) (placed (numbered plain name (n + 1) ys))
      ∙ ap₂ (λ l m. l ++ m) (data_placed plain (name n) 0 (read y) ∙ ap readable same.0.2) (values_without (n + 1) xs ys same.1)
      ∙ sym (map-append less runs (run_values rest))
      ∙ ap (map less) (sym there)

  -- sources have the same runs, regardless of what is ignored
  values_same : (n : ℕ) (sources : List (List ℕ)) → run_values (placed (numbered plain name n sources)) ≡ run_values (placed (numbered checks name n sources))
  values_same n [] = refl
  values_same n (x ∷ xs) =
      let now = placed_from plain (name n) 0 (read x) in
      let before = placed_from checks (name n) 0 (read x) in
      let rest = placed (numbered checks name (n + 1) xs) in
      map-append (λ (p : Placed). p.run) now (placed (numbered plain name (n + 1) xs))
      ∙ ap₂ (λ l m. l ++ m) (data_placed plain (name n) 0 (read x) ∙ sym (data_placed checks (name n) 0 (read x))) (values_same (n + 1) xs)
      ∙ sym (map-append (λ (p : Placed). p.run) before rest)

-- ---- the law

module _ (inputs : Inputs) (logs baselines : List (List ℕ)) (none : faults_of inputs ≡ []) (same : AreReadWithout inputs inputs.logs logs)
    (older : AreReadWithout inputs inputs.baselines baselines) where
  abbrev other : Inputs
  other = ignoring_none inputs logs baselines

  abbrev names : List (List ℕ)
  names = inputs.checks.ignored

  abbrev v : MatchingVersion
  v = inputs.checks.matching

  abbrev listed : Listing
  listed = listing_of (file_given inputs)

  records : HasSameRecords inputs other
  records = ignored_missing inputs logs baselines none same older

  now : run_values (input_runs other) ≡ map (run_without names) (run_values (input_runs inputs))
  now = values_without (reading_checks inputs) Log 0 inputs.logs logs same

  before : run_values (baseline_runs other) ≡ map (run_without names) (run_values (baseline_runs inputs))
  before = values_without (reading_checks inputs) Baseline 0 inputs.baselines baselines older

  written_less : written_inputs other ≡ map (run_without names) (written_inputs inputs)
  written_less =
      ap₂ (λ cs bs. merged_runs listed (limited (file_given inputs) cs) (states_of v cs bs) (run_values (input_runs other))) records.current records.baseline
      ∙ ap (merged_runs listed (limited_of inputs) (states_of v (current_of inputs) (baseline_of inputs))) now
      ∙ merged_without names listed (limited_of inputs) (states_of v (current_of inputs) (baseline_of inputs)) (run_values (input_runs inputs))

  absent_less : absent_written other ≡ map (run_without names) (absent_written inputs)
  absent_less =
      ap₂ (λ cs bs. absent_runs bs (taken_of v cs bs) (run_values (baseline_runs other))) records.current records.baseline
      ∙ ap (absent_runs (baseline_of inputs) (taken_of v (current_of inputs) (baseline_of inputs))) before
      ∙ absent_without names (baseline_of inputs) (taken_of v (current_of inputs) (baseline_of inputs)) (run_values (baseline_runs inputs))

  runs_less : runs_written other ≡ map (run_without names) (runs_written inputs)
  runs_less =
      ap₂ (λ l m. l ++ m) written_less absent_less
      ∙ sym (map-append (run_without names) (written_inputs inputs) (absent_written inputs))

  counts_same : counts_in other ≡ counts_in inputs
  counts_same = ap count_of runs_less ∙ (λ i s l b. count_without names s l b (runs_written inputs) i)

  without_same : without_of other ≡ without_of inputs
  without_same = ap runs_without_results now ∙ bare_without names (run_values (input_runs inputs))

  unused_same : unused_in other ≡ unused_in inputs
  unused_same = ap (λ cs. unused_of (file_given inputs) (limited (file_given inputs) cs)) records.current

  gate_same : (policy : Policy) → gate_in other policy ≡ gate_in inputs policy
  gate_same policy =
      ap (λ c. gate_of c policy (without_of other) (unused_in other)) counts_same
      ∙ ap₂ (λ m n. gate_of (counts_in inputs) policy m n) without_same unused_same

  pub lacks_ignored : LacksIgnored inputs other
  lacks_ignored = record {
    faultless = records.faultless;
    runs = runs_less;
    counts = counts_same;
    verdict = λ policy. ap (λ c. verdict_of c policy) counts_same;
    gate = gate_same;
  }

-- without such fingerprints
module _ (inputs : Inputs) (none : faults_of inputs ≡ []) (same : AreReadWithout inputs inputs.logs inputs.logs)
    (older : AreReadWithout inputs inputs.baselines inputs.baselines) where
  abbrev again : Inputs
  again = ignoring_none inputs inputs.logs inputs.baselines

  abbrev as_before : List Record → List Record → List Data → List Data → List Data
  as_before cs bs now before =
      merged_runs (listing_of (file_given inputs)) (limited (file_given inputs) cs) (states_of inputs.checks.matching cs bs) now
      ++ absent_runs bs (taken_of inputs.checks.matching cs bs) before

  known : HasSameRecords inputs again
  known = ignored_missing inputs inputs.logs inputs.baselines none same older

  now_same : run_values (input_runs again) ≡ run_values (input_runs inputs)
  now_same = values_same (reading_checks inputs) Log 0 inputs.logs

  runs_same : runs_written again ≡ runs_written inputs
  runs_same =
      ap₂ (λ cs bs. as_before cs bs (run_values (input_runs again)) (run_values (baseline_runs again))) known.current known.baseline
      ∙ ap₂ (as_before (current_of inputs) (baseline_of inputs)) now_same (values_same (reading_checks inputs) Baseline 0 inputs.baselines)

  pub nothing_changes : (policy : Policy) → log_of_all again policy ≡ log_of_all inputs policy
  nothing_changes policy =
      ap (λ runs. log_by runs policy (without_of again) (unused_in again)) runs_same
      ∙ ap₂ (λ m n. log_by (runs_written inputs) policy m n) (ap runs_without_results now_same) (ap (λ cs. unused_of (file_given inputs) (limited (file_given inputs) cs)) known.current)
