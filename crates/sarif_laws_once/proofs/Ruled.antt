-- Conditions decide about the results of a merge without their copies.
use Rattle.std.proofs.Common.{◌≡◌, ◌||◌, ℕ, Bool, true, false, List, [], Option, Some, None, subst, sym, ap, ap₂, ◌∙◌}
use Rattle.std.specs.Prelude.{filter}
use Rattle.sarif_conditions.specs.Decided.{impact_of}
use Rattle.sarif_conditions.specs.Facts.{facts_of}
use Rattle.sarif_conditions.specs.Judged.{Judged}
use Rattle.sarif_conditions.specs.declared.facts.PolicyFacts.{PolicyFacts}
use Rattle.sarif_deciding.specs.Matched.{Matched}
use Rattle.sarif_deciding.specs.Results.{current_results, results_in}
use Rattle.sarif_findings.specs.declared.finding.Finding.{Finding}
use Rattle.sarif_findings.specs.declared.reporting.Reporting.{Reporting}
use Rattle.sarif_inputs.specs.Faults.{faults_of}
use Rattle.sarif_inputs.specs.Inputs.{Inputs, baseline_runs, baseline_sources, input_runs, log_sources, looks_at_regions, reading_checks}
use Rattle.sarif_inputs.proofs.ReadFacts.{baseline_sides, log_sides}
use Rattle.sarif_inputs_laws.proofs.Parts.{apart_faults}
use Rattle.sarif_log.proofs.Sides.{records_present, results_long}
use Rattle.sarif_log.specs.LogBy.{runs_by}
use Rattle.sarif_merge.specs.Life.{merge_counted}
use Rattle.sarif_merge.specs.MergedLog.{change_given, conditions_given, file_given, ruling_given, told_given}
use Rattle.sarif_merge.proofs.ReadObjects.{objects_in}
use Rattle.sarif_once.proofs.Faults.{none_faulty}
use Rattle.sarif_once.proofs.Parts.{runs_left, sources_left}
use Rattle.sarif_once.specs.Once.{copy_marks, without_copies}
use Rattle.sarif_options.specs.declared.policy.Policy.{Policy}
use Rattle.sarif_policy.specs.declared.condition.GateCondition.{GateCondition}
use Rattle.sarif_prepare.specs.By.{counted_if, merge_by, runs_counted_if}
use Rattle.sarif_prepare.specs.Chosen.{chosen_merge, is_hit_by}
use Rattle.sarif_prepare.specs.Ruled.{matched_in, ruled_by}
use Rattle.sarif_prepare.specs.Told.{told_in}
use Rattle.sarif_results.proofs.JudgedCounts.{records_of_logs}
use Rattle.sarif_runs.specs.Judging.{run_values}
use Rattle.sarif_runs.specs.Placed.{Placed}
use Rattle.sarif_shown.specs.PolicyLaws.{AreRuled}
use Rattle.sarif_upkeep.specs.Renewed.{accepted_in}
use Rattle.sarif_laws_policy.specs.Accepted.{acceptable, current_hits}
use Rattle.sarif_laws_policy.specs.HaveRecords.{HaveRecords}
use Rattle.sarif_laws_policy.proofs.AcceptedHits.{accepted_hits}
use Rattle.sarif_laws_policy.proofs.TellingAll.{ruled_told}
use Rattle.sarif_laws_once.specs.Decided.{current_without_copies, hits_without_copies, results_without_copies}
use Rattle.sarif_laws_once.specs.TakenOut.{AreWithoutCopies, counting_each}
use Rattle.sarif_laws_once.proofs.JudgedWithout.{current_left, results_left}
use Rattle.sarif_laws_once.proofs.ReadWithout.{runs_before, runs_now}

module _ (inputs : Inputs) where
  abbrev now : List Placed
  now = input_runs inputs

  abbrev before : List Placed
  before = baseline_runs inputs

  abbrev matched_by : Bool → Matched
  matched_by once =
      matched_in inputs.checks.matching (file_given inputs) (change_given inputs) (counted_if once now) (counted_if once before)

  abbrev ruled_with : Option (List GateCondition) → Bool → Option PolicyFacts
  ruled_with conditions once =
      ruled_by conditions inputs.checks.matching (file_given inputs) (change_given inputs) (counted_if once now) (counted_if once before)

  abbrev told_with : Option Reporting → Option (List GateCondition) → Bool → List Finding
  told_with asked conditions once =
      told_in conditions (matched_by once) asked (runs_counted_if once inputs.checks.matching (file_given inputs) now before)

  ruling_is : ruling_given inputs ≡ ruled_with (conditions_given inputs) inputs.checks.once
  unfolding ruling_given
  ruling_is = λ i. ruled_with (conditions_given inputs) inputs.checks.once

  told_is : (asked : Option Reporting) → told_given inputs asked ≡ told_with asked (conditions_given inputs) inputs.checks.once
  unfolding told_given
  told_is asked = λ i. told_with asked (conditions_given inputs) inputs.checks.once

  module _ (none : faults_of inputs ≡ []) where
    -- each finding has a record
    findings_have_records : HaveRecords (without_copies now) (without_copies before)
    findings_have_records =
        let fine = apart_faults inputs none in record {
          inputs_are_runs = runs_left (copy_marks now) now (objects_in (log_sources inputs));
          baselines_are_runs = runs_left (copy_marks before) before (objects_in (baseline_sources inputs));
          inputs =
              records_of_logs (without_copies now) (none_faulty (copy_marks now) now fine.log_runs)
              (sources_left false (copy_marks now) now (log_sides (reading_checks inputs) 0 inputs.logs))
              ∙ sym (results_long (run_values (without_copies now)));
          baselines =
              records_present (without_copies before) (none_faulty (copy_marks before) before fine.older_runs)
              (sources_left true (copy_marks before) before (baseline_sides (reading_checks inputs) 0 inputs.baselines));
        }

    module _ (cs : List GateCondition) where
      seen_are : results_in cs (matched_by true) ≡ results_without_copies inputs cs
      seen_are =
          let fine = apart_faults inputs none in
          results_left inputs.checks.matching (file_given inputs) (change_given inputs) now before fine.log_runs fine.older_runs
          (log_sides (reading_checks inputs) 0 inputs.logs) (baseline_sides (reading_checks inputs) 0 inputs.baselines) cs

      current_are : current_results cs (matched_by true) ≡ current_without_copies inputs cs
      current_are =
          let fine = apart_faults inputs none in
          current_left inputs.checks.matching (file_given inputs) (change_given inputs) now before fine.log_runs fine.older_runs
          (log_sides (reading_checks inputs) 0 inputs.logs) (baseline_sides (reading_checks inputs) 0 inputs.baselines) cs

      hits_are : current_hits cs (matched_by true) ≡ hits_without_copies inputs cs
      hits_are = ap₂ (λ (all rs : List Judged). filter (λ r. is_hit_by (impact_of cs all r)) rs) seen_are current_are

pub facts_without : (inputs : Inputs) (cs : List GateCondition) → faults_of inputs ≡ [] → inputs.checks.once ≡ true → conditions_given inputs ≡ Some cs
    → ruling_given inputs ≡ Some (facts_of cs (results_without_copies inputs cs))
facts_without inputs cs none once given =
    ruling_is inputs ∙ ap₂ (ruled_with inputs) given once ∙ ap (λ rs. Some (facts_of cs rs)) (seen_are inputs none cs)

pub told_without : (inputs : Inputs) (cs : List GateCondition) (reporting : Reporting) → faults_of inputs ≡ [] → inputs.checks.once ≡ true
    → conditions_given inputs ≡ Some cs → AreRuled reporting.show cs (results_without_copies inputs cs) (told_given inputs (Some reporting))
told_without inputs cs reporting none once given =
    let is : told_given inputs (Some reporting) ≡ told_with inputs (Some reporting) (Some cs) true =
    told_is inputs (Some reporting) ∙ ap₂ (told_with inputs (Some reporting)) given once in
    let ruled : AreRuled reporting.show cs (results_in cs (matched_by inputs true)) (told_with inputs (Some reporting) (Some cs) true) =
    ruled_told inputs.checks.matching (file_given inputs) (change_given inputs) (without_copies (input_runs inputs)) (without_copies (baseline_runs inputs)) cs
    (findings_have_records inputs none) reporting in
    subst (λ (fs : List Finding). AreRuled reporting.show cs (results_without_copies inputs cs) fs) (sym is)
    (subst (λ (rs : List Judged). AreRuled reporting.show cs rs (told_with inputs (Some reporting) (Some cs) true)) (seen_are inputs none cs) ruled)

pub accepted_without : (inputs : Inputs) (policy : Policy) (cs : List GateCondition) → faults_of inputs ≡ [] → inputs.checks.once ≡ true
    → conditions_given inputs ≡ Some cs
    → accepted_in (merge_counted inputs policy None) ≡ acceptable (file_given inputs) (hits_without_copies inputs cs)
accepted_without inputs policy cs none once given =
    ap (λ conditions. accepted_in (merge_by conditions inputs.checks (file_given inputs) inputs.suppressions (change_given inputs) policy None
    (input_runs inputs) (baseline_runs inputs))) given
    ∙ ap (λ b. accepted_in (chosen_merge (Some cs) inputs.checks (file_given inputs) inputs.suppressions (change_given inputs) policy None
    (counted_if b (input_runs inputs)) (counted_if b (baseline_runs inputs)))) once
    ∙ accepted_hits inputs.checks (file_given inputs) inputs.suppressions (change_given inputs) policy
    (without_copies (input_runs inputs)) (without_copies (baseline_runs inputs)) cs (findings_have_records inputs none)
    ∙ ap (acceptable (file_given inputs)) (hits_are inputs none cs)

-- ---- without the copies in logs and baselines

module _ (inputs : Inputs) (logs baselines : List (List ℕ)) (none : faults_of inputs ≡ []) (once : inputs.checks.once ≡ true)
    (regions : (inputs.snippets || looks_at_regions inputs.checks.matching) ≡ true) (read : AreWithoutCopies inputs logs baselines) where
  abbrev other : Inputs
  other = counting_each inputs logs baselines

  same_now : input_runs other ≡ counted_if inputs.checks.once (input_runs inputs)
  same_now = runs_now inputs logs baselines none regions read ∙ sym (ap (λ b. counted_if b (input_runs inputs)) once)

  same_before : baseline_runs other ≡ counted_if inputs.checks.once (baseline_runs inputs)
  same_before = runs_before inputs logs baselines none regions read ∙ sym (ap (λ b. counted_if b (baseline_runs inputs)) once)

  pub ruled_same : ruling_given (counting_each inputs logs baselines) ≡ ruling_given inputs
  ruled_same =
      ruling_is other
      ∙ ap₂ (ruled_by (conditions_given inputs) inputs.checks.matching (file_given inputs) (change_given inputs)) same_now same_before
      ∙ sym (ruling_is inputs)

  pub told_same : (asked : Option Reporting) → told_given (counting_each inputs logs baselines) asked ≡ told_given inputs asked
  told_same asked =
      told_is other asked
      ∙ ap₂ (λ ps qs. told_in (conditions_given inputs) (matched_in inputs.checks.matching (file_given inputs) (change_given inputs) ps qs) asked
      (runs_by inputs.checks.matching (file_given inputs) ps qs)) same_now same_before
      ∙ sym (told_is inputs asked)
