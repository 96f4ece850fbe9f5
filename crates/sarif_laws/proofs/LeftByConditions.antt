-- The law of accepting with the conditions of a policy.
use Rattle.std.proofs.Common.{◌≡◌, ℕ, Bool, true, false, List, [], length, Option, Some, None, Result, Ok, Err, refl, sym, ap, subst, ◌∙◌}
use Rattle.std.specs.Prelude.{is_some, unwrap_or}
use Rattle.std.proofs.lemmas.Option.{same_Some}
use Rattle.json_parts.specs.Indexed.{json_of}
use Rattle.json_parts.specs.Mark.{without_mark}
use Rattle.sarif_accept.specs.Choosing.{Marks}
use Rattle.sarif_accept.specs.Until.{IsUntil}
use Rattle.sarif_choice.specs.declared.choice.Choosing.{Choosing}
use Rattle.sarif_deciding.specs.Ruling.{ruling_in}
use Rattle.sarif_inputs.specs.Faults.{faults_of}
use Rattle.sarif_inputs.specs.PolicyIn.{conditions_or_none, policy_read}
use Rattle.sarif_inputs.specs.Inputs.{Inputs, baseline_runs, input_runs}
use Rattle.sarif_log.proofs.Sides.{states_long}
use Rattle.sarif_match.specs.Partners.{partners_in}
use Rattle.sarif_merge.specs.Life.{merge_counted}
use Rattle.sarif_merge.specs.MergedLog.{change_given, conditions_given, current_of, file_given, limited_of}
use Rattle.sarif_merge.specs.OwnResult.{baseline_of}
use Rattle.sarif_options.specs.declared.policy.Policy.{Policy}
use Rattle.sarif_options.specs.declared.upkeep.Renewal.{Renewal}
use Rattle.sarif_policy.specs.Laws.{HaveNoMax}
use Rattle.sarif_policy.specs.File.{policy_of}
use Rattle.sarif_policy.specs.declared.condition.GateCondition.{GateCondition}
use Rattle.sarif_policy.specs.declared.fault.PolicyFault.{PolicyFault}
use Rattle.sarif_policy.proofs.FiltersRead.{no_max_is_read}
use Rattle.sarif_log.proofs.Limits.{limited_long}
use Rattle.sarif_prepare.specs.By.{counted_if}
use Rattle.sarif_prepare.specs.Chosen.{chosen_merge, others_among}
use Rattle.sarif_prepare.specs.Told.{any_policy}
use Rattle.sarif_upkeep.specs.Hiding.{looked_at}
use Rattle.sarif_upkeep.specs.Merge.{Merge}
use Rattle.sarif_upkeep.specs.Renewed.{renewal_faults, rules_after}
use Rattle.sarif_upkeep.proofs.Inside.{faults_shown, file_shown}
use Rattle.sarif_laws_policy.proofs.AcceptedHits.{hidden_long}
use Rattle.sarif_laws.specs.Choosing.{IsNewFileChoosing, LeavesOthers, merge_choosing}
use Rattle.sarif_laws.specs.Decided.{matched_given}
use Rattle.sarif_laws.specs.LeftByPolicy.{LeavesByPolicy, marks_shown}
use Rattle.sarif_laws.proofs.AcceptedChosen.{law_of_choosing}
use Rattle.sarif_laws.proofs.HitsLater.{hit_later}
use Rattle.sarif_laws.proofs.RuledMerge.{records_given}

-- conditions that were read
conditions_plain : (inputs : Inputs) (cs : List GateCondition) → conditions_given inputs ≡ Some cs → HaveNoMax cs
conditions_plain inputs cs given = by_policy inputs.policy given
  where
    by_read : (read : Result (List GateCondition) PolicyFault) → ((es : List GateCondition) → read ≡ Ok es → HaveNoMax es)
        → conditions_or_none (Some read) ≡ Some cs → HaveNoMax cs
    by_read (Ok es) plain is = subst HaveNoMax (same_Some es cs is) (plain es refl)
    by_read (Err wrong) plain is = let never : ⊥ = cc in absurd never

    by_policy : (policy : Option (List ℕ)) → conditions_or_none (policy_read (is_some inputs.diff) policy) ≡ Some cs → HaveNoMax cs
    by_policy None is = let never : ⊥ = cc in absurd never
    by_policy (Some bytes) is = by_read (policy_of bytes (is_some inputs.diff)) (no_max_is_read bytes (is_some inputs.diff)) is

module _ (inputs : Inputs) (policy : Policy) (cs : List GateCondition) (renewal : Renewal) (text : List ℕ)
    (none : faults_of inputs ≡ []) (whole : inputs.checks.once ≡ false) (given : conditions_given inputs ≡ Some cs)
    (accepts : renewal.accept ≡ true) (until : IsUntil inputs.today renewal.until) where
  abbrev merge_with : Option (List GateCondition) → Bool → Option Choosing → Merge
  merge_with conditions once choice =
      chosen_merge conditions inputs.checks (file_given inputs) inputs.suppressions (change_given inputs) policy choice
      (counted_if once (input_runs inputs)) (counted_if once (baseline_runs inputs))

  abbrev m : Option Choosing → Merge
  m choice = merge_with (Some cs) false choice

  merge_is : (choice : Option Choosing) → merge_counted inputs policy choice ≡ m choice
  merge_is choice =
      ap (λ conditions. merge_with conditions inputs.checks.once choice) given ∙ ap (λ once. merge_with (Some cs) once choice) whole

  plain : HaveNoMax cs
  plain = conditions_plain inputs cs given

  -- which current results are not hits
  abbrev others : List Bool
  others = others_among (length (limited_of inputs)) (ruling_in cs (matched_given inputs))

  hidden_is : (choice : Option Choosing) → (m choice).hidden ≡ Some others
  hidden_is None = refl
  hidden_is (Some c) = refl

  others_long : length others ≡ length (limited_of inputs)
  others_long = hidden_long inputs.checks (file_given inputs) (change_given inputs) (input_runs inputs) (baseline_runs inputs) cs (records_given inputs none)

  hidden_many : (choice : Option Choosing) → length others ≡ length (m choice).records
  hidden_many None = others_long
  hidden_many (Some c) = others_long

  all_states : length (m None).states ≡ length (limited_of inputs)
  all_states =
      states_long inputs.checks.matching (baseline_of inputs) (partners_in inputs.checks.matching (current_of inputs) (baseline_of inputs)) 0 (current_of inputs)
      ∙ sym (limited_long (file_given inputs) (current_of inputs))

  states_many : (choice : Option Choosing) → length (m choice).states ≡ length (m choice).records
  states_many None = all_states
  states_many (Some c) = all_states

  abbrev marks : Option Choosing → Marks
  marks choice = Some (looked_at others (m choice).chosen)

  marks_are : (choice : Option Choosing) → marks choice ≡ marks_shown (merge_counted inputs policy choice)
  marks_are choice =
      sym (ap marks_shown (merge_is choice) ∙ ap (λ h. Some (looked_at (unwrap_or h []) (m choice).chosen)) (hidden_is choice))

  file_is : (choice : Option Choosing) → rules_after (m choice) renewal ≡ rules_after (merge_choosing inputs any_policy (marks choice)) renewal
  file_is None = file_shown (m None) others renewal (hidden_is None) (hidden_many None) (states_many None)
  file_is (Some c) = file_shown (m (Some c)) others renewal (hidden_is (Some c)) (hidden_many (Some c)) (states_many (Some c))

  faults_are : (choice : Option Choosing)
      → renewal_faults (m choice) renewal ≡ renewal_faults (merge_choosing inputs any_policy (marks choice)) renewal
  faults_are None = faults_shown (m None) others renewal (hidden_is None) (hidden_many None) (states_many None)
  faults_are (Some c) = faults_shown (m (Some c)) others renewal (hidden_is (Some c)) (hidden_many (Some c)) (states_many (Some c))

  module _ (choice : Option Choosing) (small : renewal_faults (merge_counted inputs policy choice) renewal ≡ [])
      (is : json_of (without_mark text) ≡ Some (rules_after (merge_counted inputs policy choice) renewal)) where
    small_chosen : renewal_faults (merge_choosing inputs any_policy (marks choice)) renewal ≡ []
    small_chosen = sym (faults_are choice) ∙ sym (ap (λ q. renewal_faults q renewal) (merge_is choice)) ∙ small

    is_chosen : IsNewFileChoosing inputs any_policy (marks choice) renewal text
    is_chosen = is ∙ ap (λ q. Some (rules_after q renewal)) (merge_is choice) ∙ ap Some (file_is choice)

    left : LeavesOthers inputs any_policy (marks choice) renewal text
    left = law_of_choosing inputs any_policy (marks choice) renewal text none small_chosen until accepts is_chosen

    pub law_of_a_policy : LeavesByPolicy inputs policy choice cs renewal text
    law_of_a_policy = record {
      others = subst (λ ms. LeavesOthers inputs any_policy ms renewal text) (marks_are choice) left;
      hits = λ k seq there. hit_later inputs text none left.faultless cs plain k seq there (λ was. (left.results k seq).suppressed was);
    }
