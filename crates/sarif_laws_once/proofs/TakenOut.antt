-- The merge of logs and baselines without copies has the findings of the merge with them.
use Rattle.std.proofs.Common.{◌≡◌, ◌+◌, ℕ, Bool, true, false, List, [], ◌∷◌, length, take, drop, Option, Some, None, option_map, refl, sym, ap, ap₂, ◌∙◌}
use Rattle.std.specs.Prelude.{◌||◌, cond, fold, is_some, not}
use Rattle.serde_json.specs.Data.{Data}
use Rattle.serde_json.specs.View.{items_of}
use Rattle.sarif_model.specs.Run.{results_array, results_of}
use Rattle.sarif_options.specs.declared.checks.Checks.{Checks}
use Rattle.sarif_options.specs.declared.policy.Policy.{Policy}
use Rattle.sarif_entries.specs.File.{File}
use Rattle.sarif_evidence.specs.declared.version.MatchingVersion.{MatchingVersion}
use Rattle.sarif_evidence.specs.declared.version.MatchingVersion.TheVariants.{Two, Three}
use Rattle.sarif_known.specs.Chosen.{knows_regions}
use Rattle.sarif_choice.specs.declared.choice.Choosing.{Choosing}
use Rattle.sarif_counts.specs.CountOf.{count_of}
use Rattle.sarif_scope.specs.Counted.{hits_by, verdict_by}
use Rattle.sarif_scope.specs.declared.gated.GatedChange.{GatedChange}
use Rattle.sarif_read.specs.Unmarked.{unmarked}
use Rattle.sarif_read.proofs.Only.{array_only}
use Rattle.sarif_runs.specs.Judging.{run_values}
use Rattle.sarif_runs.specs.Placed.{Placed}
use Rattle.sarif_runs.specs.Unmarked.{runs_without}
use Rattle.sarif_suppress.specs.Suppressing.{unused_of}
use Rattle.sarif_once.specs.Once.{copy_marks, without_copies}
use Rattle.sarif_log.specs.LogBy.{current_runs, limited_records, runs_by, runs_without_results}
use Rattle.sarif_prepare.specs.By.{counted_if, runs_counted_if}
use Rattle.sarif_policy.specs.declared.condition.GateCondition.{GateCondition}
use Rattle.sarif_prepare.specs.Chosen.{chosen_merge, hits_alone, marks_by, marks_in, misfit_by, ruled_merge, with_choice}
use Rattle.sarif_prepare.specs.Ruled.{decided_by, matched_in}
use Rattle.sarif_prepare.specs.Kept.{merge_of}
use Rattle.sarif_prepare.proofs.Expired.{all_expired}
use Rattle.sarif_inputs.specs.Faults.{faults_of}
use Rattle.sarif_inputs.specs.Inputs.{Inputs, baseline_runs, input_runs, looks_at_regions}
use Rattle.sarif_merge.specs.Life.{merge_counted}
use Rattle.sarif_merge.specs.MergedLog.{change_given, conditions_given, file_given, limited_of, runs_counted, unused_counted}
use Rattle.sarif_laws_once.specs.TakenOut.{AreWithoutCopies, HasSameFindings, counting_each, if_each_counts}
use Rattle.sarif_laws_once.specs.WithoutPlaces.{log_without_copies}
use Rattle.sarif_laws_once.proofs.ReadWithout.{none_there, runs_before, runs_now}

some_mapped : {A B : Type 0} (f : A → B) (o : Option A) → is_some (option_map f o) ≡ is_some o
some_mapped f None = refl
some_mapped f (Some a) = refl

-- a run has an array of results as before
abbrev one_more : ℕ → Data → ℕ
one_more n run = n + cond (not (is_some (results_array run))) 1 0

none_after : (n : ℕ) (marks : List Bool) (ps : List Placed) → fold one_more n (run_values (runs_without marks ps)) ≡ fold one_more n (run_values ps)
none_after n marks [] = refl
none_after n marks (p ∷ ps) =
    let k = length (results_of p.run) in
    let ds = unmarked (take k marks) (results_of p.run) in
    ap (λ b. fold one_more (n + cond (not b) 1 0) (run_values (runs_without (drop k marks) ps)))
    (ap is_some (array_only ds p.run) ∙ some_mapped (λ _. items_of ds) (results_array p.run))
    ∙ none_after (one_more n p.run) (drop k marks) ps

pub still_none : (marks : List Bool) (ps : List Placed) → runs_without_results (run_values (runs_without marks ps)) ≡ runs_without_results (run_values ps)
still_none marks ps = none_after 0 marks ps

-- that results count, and whether the known log has regions, is all that differs for later merges
knows_each : (v : MatchingVersion) → knows_regions v false ≡ looks_at_regions v
knows_each Two = refl
knows_each Three = refl

chosen_each : (conditions : Option (List GateCondition)) (checks : Checks) (file : File) (bytes : Option (List ℕ)) (change : Option GatedChange)
    (policy : Policy) (choice : Option Choosing) (current baseline : List Placed)
    → chosen_merge conditions (record checks { once = false }) file bytes change policy choice current baseline
    ≡ record (chosen_merge conditions checks file bytes change policy choice current baseline) { once = false; regions = looks_at_regions checks.matching }
chosen_each None checks file bytes change policy None current baseline =
    (λ i. record (merge_of checks file bytes change policy current baseline) { regions = knows_each checks.matching i })
chosen_each None checks file bytes change policy (Some choosing) current baseline =
    let hits = hits_alone policy choosing.roots in
    (λ i. with_choice (record (merge_of checks file bytes change policy current baseline) { regions = knows_each checks.matching i })
    (Some (marks_in change hits choosing.choice (current_runs checks.matching file current baseline)))
    (misfit_by None (matched_in checks.matching file change current baseline) hits choosing.choice (runs_by checks.matching file current baseline)))
chosen_each (Some cs) checks file bytes change policy None current baseline =
    (λ i. ruled_merge (decided_by (Some cs) (matched_in checks.matching file change current baseline))
    (record (merge_of checks file bytes change policy current baseline) { regions = knows_each checks.matching i }))
chosen_each (Some cs) checks file bytes change policy (Some choosing) current baseline =
    let m = matched_in checks.matching file change current baseline in
    let hits = hits_alone policy choosing.roots in
    (λ i. with_choice (ruled_merge (decided_by (Some cs) m)
    (record (merge_of checks file bytes change policy current baseline) { regions = knows_each checks.matching i }))
    (Some (marks_by (decided_by (Some cs) m) change hits choosing.choice (current_runs checks.matching file current baseline)))
    (misfit_by (Some cs) m hits choosing.choice (runs_by checks.matching file current baseline)))

module _ (inputs : Inputs) (logs baselines : List (List ℕ)) (none : faults_of inputs ≡ []) (once : inputs.checks.once ≡ true)
    (regions : (inputs.snippets || looks_at_regions inputs.checks.matching) ≡ true) (read : AreWithoutCopies inputs logs baselines) where
  abbrev other : Inputs
  other = counting_each inputs logs baselines

  abbrev now : List Placed
  now = input_runs inputs

  abbrev before : List Placed
  before = baseline_runs inputs

  same_now : input_runs other ≡ without_copies now
  same_now = runs_now inputs logs baselines none regions read

  same_before : baseline_runs other ≡ without_copies before
  same_before = runs_before inputs logs baselines none regions read

  pub counted_same : runs_counted (counting_each inputs logs baselines) ≡ runs_counted inputs
  counted_same =
      ap₂ (runs_by inputs.checks.matching (file_given inputs)) same_now same_before
      ∙ sym (ap (λ b. runs_counted_if b inputs.checks.matching (file_given inputs) now before) once)

  pub later_same : (policy : Policy) (choice : Option Choosing)
      → merge_counted (counting_each inputs logs baselines) policy choice ≡ if_each_counts inputs (merge_counted inputs policy choice)
  later_same policy choice =
      ap₂ (chosen_merge (conditions_given inputs) other.checks (file_given inputs) inputs.suppressions (change_given inputs) policy choice) same_now same_before
      ∙ chosen_each (conditions_given inputs) inputs.checks (file_given inputs) inputs.suppressions (change_given inputs) policy choice (without_copies now) (without_copies before)
      ∙ sym (ap (λ b. if_each_counts inputs
      (chosen_merge (conditions_given inputs) inputs.checks (file_given inputs) inputs.suppressions (change_given inputs) policy choice (counted_if b now) (counted_if b before))) once)

  unused_same : unused_counted other ≡ unused_counted inputs
  unused_same =
      ap (λ ps. unused_of (file_given inputs) (limited_records (file_given inputs) ps))
      (same_now ∙ sym (ap (λ b. counted_if b now) once))

  pub same_findings : log_without_copies inputs ≡ runs_counted inputs → HasSameFindings inputs (counting_each inputs logs baselines)
  same_findings log = record {
    faultless = none_there inputs logs baselines none regions read;
    log = counted_same ∙ sym log;
    counted = counted_same;
    counts = ap count_of counted_same;
    hits = λ change policy. ap (hits_by change policy) counted_same;
    verdict = λ change policy. ap (verdict_by change policy) counted_same;
    without = ap (λ ps. runs_without_results (run_values ps)) same_now ∙ still_none (copy_marks now) now;
    unused = unused_same;
    expired = sym (all_expired (file_given inputs) (limited_of other)) ∙ all_expired (file_given inputs) (limited_of inputs);
  }
