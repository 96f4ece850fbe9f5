-- The findings of a merge with a policy are those of the results that its conditions report.
use Rattle.std.proofs.Common.{◌≡◌, ◌<◌, ◌^◌, zero, suc, Bool, false, List, [], ◌∷◌, codes, length, map, Option, Some, None, refl, sym, ap, subst, ◌∙◌, arith}
use Rattle.std.specs.Prelude.{flat_map, nat_lt}
use Rattle.std.specs.List.{cons_option, All, AllByRecursion, Contains}
use Rattle.std.proofs.lemmas.List.Elements.{All-from_recursion}
use Rattle.serde_json.specs.Data.{Data}
use Rattle.sarif_conditions.specs.Facts.{facts_of, verdict_told}
use Rattle.sarif_counts.specs.declared.gate_verdict.Impact.{Impact}
use Rattle.sarif_deciding.specs.Matched.{Matched}
use Rattle.sarif_findings.specs.Lookup.{elements_in}
use Rattle.sarif_findings.specs.Reported.{reported_in, reported_of}
use Rattle.sarif_findings.specs.declared.finding.Finding.{Finding}
use Rattle.sarif_findings.specs.declared.reporting.Reporting.{Reporting}
use Rattle.sarif_findings.specs.declared.reporting.Show.{Show}
use Rattle.sarif_inputs.specs.Faults.{faults_of}
use Rattle.sarif_inputs.specs.Inputs.{Inputs, baseline_runs, baseline_sources, input_runs, log_sources, reading_checks}
use Rattle.sarif_inputs.proofs.ReadFacts.{baseline_sides, log_sides}
use Rattle.sarif_log.proofs.Sides.{records_present, results_long}
use Rattle.sarif_log.specs.Told.{told_of}
use Rattle.sarif_merge.specs.Life.{merge_counted}
use Rattle.sarif_merge.specs.MergedLog.{change_given, conditions_given, file_given, runs_counted, told_given}
use Rattle.sarif_merge.proofs.OwnResult.{faultless_runs}
use Rattle.sarif_merge.proofs.ReadObjects.{objects_in}
use Rattle.sarif_policy.specs.declared.condition.GateCondition.{GateCondition}
use Rattle.sarif_options.specs.declared.policy.Policy.{Policy}
use Rattle.sarif_prepare.specs.By.{counted_if, merge_by, runs_counted_if}
use Rattle.sarif_prepare.specs.Chosen.{chosen_merge}
use Rattle.sarif_prepare.specs.Ruled.{matched_in}
use Rattle.sarif_prepare.specs.Told.{active_impacts, of_all, shown_by, told_in, told_ruled, told_with, with_impact}
use Rattle.sarif_reports.specs.JunitLaws.{occurrences}
use Rattle.sarif_reports.specs.PolicyReports.{IsFindingOf, document_of_policy}
use Rattle.sarif_reports.proofs.PolicyFindings.{policy_fails}
use Rattle.sarif_results.proofs.JudgedCounts.{records_of_logs}
use Rattle.sarif_runs.specs.Judging.{run_values}
use Rattle.sarif_runs.specs.Placed.{Placed}
use Rattle.sarif_upkeep.specs.Renewed.{accepted_in}
use Rattle.sarif_shown.specs.PolicyLaws.{AreRuled, is_fail}
use Rattle.sarif_laws_policy.specs.Accepted.{acceptable, current_hits}
use Rattle.sarif_laws_policy.specs.HaveRecords.{HaveRecords}
use Rattle.sarif_laws_policy.proofs.AcceptedHits.{accepted_hits}
use Rattle.sarif_laws_policy.proofs.TellingAll.{ruled_told}
use Rattle.sarif_laws.specs.Decided.{matched_given, results_given}
use Rattle.sarif_laws.proofs.Remembered.{faultless_before}

module _ (inputs : Inputs) (none : faults_of inputs ≡ []) where
  abbrev now : List Placed
  now = input_runs inputs

  abbrev before : List Placed
  before = baseline_runs inputs

  -- accepted inputs have a record for each result
  pub records_given : HaveRecords now before
  records_given = record {
    inputs_are_runs = objects_in (log_sources inputs);
    baselines_are_runs = objects_in (baseline_sources inputs);
    inputs =
        records_of_logs now (faultless_runs inputs none) (log_sides (reading_checks inputs) 0 inputs.logs)
        ∙ sym (results_long (run_values now));
    baselines = records_present before (faultless_before inputs none) (baseline_sides (reading_checks inputs) 0 inputs.baselines);
  }

  module _ (cs : List GateCondition) (reporting : Reporting) (whole : inputs.checks.once ≡ false) (given : conditions_given inputs ≡ Some cs) where
    abbrev told_by : Option (List GateCondition) → Bool → List Finding
    told_by conditions once =
        told_in conditions
        (matched_in inputs.checks.matching (file_given inputs) (change_given inputs) (counted_if once now) (counted_if once before))
        (Some reporting) (runs_counted_if once inputs.checks.matching (file_given inputs) now before)

    told_is : told_given inputs (Some reporting) ≡ told_by (Some cs) false
    unfolding told_given
    told_is = ap (λ conditions. told_by conditions inputs.checks.once) given ∙ ap (told_by (Some cs)) whole

    ruled : AreRuled reporting.show cs (results_given inputs cs) (told_given inputs (Some reporting))
    ruled =
        ap (λ (fs : List Finding). map (λ (f : Finding). f.impact) fs) told_is
        ∙ ruled_told inputs.checks.matching (file_given inputs) (change_given inputs) now before cs records_given reporting

pub merge_ruled : (inputs : Inputs) (cs : List GateCondition) (reporting : Reporting) → faults_of inputs ≡ [] → inputs.checks.once ≡ false
    → conditions_given inputs ≡ Some cs → AreRuled reporting.show cs (results_given inputs cs) (told_given inputs (Some reporting))
merge_ruled inputs cs reporting none whole given = ruled inputs none cs reporting whole given

-- ---- what is accepted

pub policy_accepts : (inputs : Inputs) (policy : Policy) (cs : List GateCondition) → faults_of inputs ≡ [] → inputs.checks.once ≡ false
    → conditions_given inputs ≡ Some cs
    → accepted_in (merge_counted inputs policy None) ≡ acceptable (file_given inputs) (current_hits cs (matched_given inputs))
policy_accepts inputs policy cs none whole given =
    ap (λ conditions. accepted_in (merge_by conditions inputs.checks (file_given inputs) inputs.suppressions (change_given inputs) policy None
    (input_runs inputs) (baseline_runs inputs))) given
    ∙ ap (λ once. accepted_in (chosen_merge (Some cs) inputs.checks (file_given inputs) inputs.suppressions (change_given inputs) policy None
    (counted_if once (input_runs inputs)) (counted_if once (baseline_runs inputs)))) whole
    ∙ accepted_hits inputs.checks (file_given inputs) inputs.suppressions (change_given inputs) policy (input_runs inputs) (baseline_runs inputs) cs
    (records_given inputs none)

-- ---- each is the finding of a result of the log

-- a finding is one of these, except for what its result does to the gate
abbrev IsOneOf : List Finding → Finding → Type 0
IsOneOf all f = (g : Finding) × Contains all g × (f ≡ record g { impact = f.impact })

told_one : (all : List Finding) (i : Option Impact) (f : Finding) (rest : List Finding) → Contains all f → AllByRecursion (IsOneOf all) rest
    → AllByRecursion (IsOneOf all) (cons_option (with_impact i f) rest)
told_one all None f rest there found = found
told_one all (Some i) f rest there found = ((f, there, refl), found)

told_from : (show : Show) (is : List (Option Impact)) (fs all : List Finding) → ((g : Finding) → Contains fs g → Contains all g)
    → AllByRecursion (IsOneOf all) (told_with show is fs)
told_from show [] fs all within = tt
told_from show (i ∷ is) [] all within = tt
told_from show (i ∷ is) (f ∷ fs) all within =
    told_one all (shown_by show i) f (told_with show is fs) (within f (zero, omega arith, refl))
    (told_from show is fs all (λ g there. within g (suc there.0, omega (arith, there.1), there.2)))

module _ (inputs : Inputs) (cs : List GateCondition) (reporting : Reporting) (log : Data) (given : conditions_given inputs ≡ Some cs)
    (same : elements_in (codes "runs") log ≡ runs_counted inputs) where
  abbrev counted : Matched
  counted =
      matched_in inputs.checks.matching (file_given inputs) (change_given inputs)
      (counted_if inputs.checks.once (input_runs inputs)) (counted_if inputs.checks.once (baseline_runs inputs))

  given_is : told_given inputs (Some reporting) ≡ told_ruled cs counted reporting (runs_counted inputs)
  unfolding told_given
  given_is = ap (λ conditions. told_in conditions counted (Some reporting) (runs_counted inputs)) given

  pub merge_found : All (IsFindingOf (of_all reporting) log) (told_given inputs (Some reporting))
  merge_found =
      let found : All (IsFindingOf (of_all reporting) log) (told_ruled cs counted reporting (runs_counted inputs)) =
      All-from_recursion (IsFindingOf (of_all reporting) log) (told_ruled cs counted reporting (runs_counted inputs))
      (told_from reporting.show (active_impacts cs counted) (told_of (Some (of_all reporting)) (runs_counted inputs)) (reported_of (of_all reporting) log)
      (λ g there. subst (λ (runs : List Data). Contains (flat_map (reported_in (of_all reporting)) runs) g) (sym same) there)) in
      subst (All (IsFindingOf (of_all reporting) log)) (sym given_is) found

-- ---- a report in JUnit XML

pub junit_fails : (inputs : Inputs) (cs : List GateCondition) (reporting : Reporting) (log : Data) → faults_of inputs ≡ []
    → inputs.checks.once ≡ false → conditions_given inputs ≡ Some cs → elements_in (codes "runs") log ≡ runs_counted inputs
    → length (told_given inputs (Some reporting)) < 2 ^ 64
    → nat_lt 0 (occurrences (codes "<failure ") (document_of_policy (told_given inputs (Some reporting))))
    ≡ is_fail (verdict_told (facts_of cs (results_given inputs cs)))
junit_fails inputs cs reporting log none whole given same few =
    policy_fails reporting.show cs (results_given inputs cs) (of_all reporting) log (told_given inputs (Some reporting))
    (merge_ruled inputs cs reporting none whole given) (merge_found inputs cs reporting log given same) few
