-- What is for later merges, except for accepting, is the same with a diff and without it.
use Rattle.std.proofs.Common.{◌≡◌, ℕ, List, Option, Some, None, false, refl, sym, ap, subst, ◌∙◌}
use Rattle.std.specs.Prelude.{is_some}
use Rattle.sarif_choice.specs.declared.choice.Choosing.{Choosing}
use Rattle.sarif_entries.specs.File.{File}
use Rattle.sarif_inputs.specs.Inputs.{Inputs, baseline_runs, input_runs}
use Rattle.sarif_inputs.specs.PolicyIn.{conditions_or_none, policy_read}
use Rattle.sarif_merge.specs.Life.{merge_counted}
use Rattle.sarif_merge.specs.MergedLog.{change_given, conditions_given, file_given}
use Rattle.sarif_options.specs.declared.checks.Checks.{Checks}
use Rattle.sarif_options.specs.declared.policy.Policy.{Policy}
use Rattle.sarif_options.specs.declared.upkeep.Knowing.{Knowing}
use Rattle.sarif_options.specs.declared.upkeep.Renewal.{Renewal}
use Rattle.sarif_prepare.specs.By.{merge_by}
use Rattle.sarif_runs.specs.Placed.{Placed}
use Rattle.sarif_scope.specs.declared.gated.GatedChange.{GatedChange}
use Rattle.sarif_upkeep.specs.Known.{remembered}
use Rattle.sarif_upkeep.specs.Life.{unused_in}
use Rattle.sarif_upkeep.specs.Merge.{Merge}
use Rattle.sarif_upkeep.specs.Renewed.{renewed}
use Rattle.sarif_laws.specs.OneChange.{without_diff}

none_given : (inputs : Inputs) → inputs.policy ≡ None → conditions_given inputs ≡ None
none_given inputs none = ap (λ policy. conditions_or_none (policy_read (is_some inputs.diff) policy)) none

-- the merge of these inputs by the options alone
abbrev by_options : Inputs → Policy → Option Choosing → Merge
by_options inputs policy choice =
    merge_by None inputs.checks (file_given inputs) inputs.suppressions (change_given inputs) policy choice (input_runs inputs) (baseline_runs inputs)

options_alone : (inputs : Inputs) (policy : Policy) (choice : Option Choosing) → inputs.policy ≡ None
    → merge_counted inputs policy choice ≡ by_options inputs policy choice
options_alone inputs policy choice none =
    ap (λ conditions. merge_by conditions inputs.checks (file_given inputs) inputs.suppressions (change_given inputs) policy choice (input_runs inputs)
    (baseline_runs inputs)) (none_given inputs none)

-- what is the same by the options alone is so of merges without a policy
without_policy : {X : Type 0} (what : Merge → X) (inputs : Inputs) (policy : Policy) (choice : Option Choosing) → inputs.policy ≡ None
    → what (by_options inputs policy choice) ≡ what (by_options (without_diff inputs) policy choice)
    → what (merge_counted inputs policy choice) ≡ what (merge_counted (without_diff inputs) policy choice)
without_policy what inputs policy choice none same =
    ap what (options_alone inputs policy choice none) ∙ same ∙ sym (ap what (options_alone (without_diff inputs) policy choice none))

known_alone : (inputs : Inputs) (policy : Policy) (choice : Option Choosing) (knowing : Knowing)
    → remembered (by_options inputs policy choice) knowing ≡ remembered (by_options (without_diff inputs) policy choice) knowing
known_alone inputs policy None knowing = refl
known_alone inputs policy (Some choosing) knowing = refl

pub known_same : (inputs : Inputs) (policy : Policy) (choice : Option Choosing) (knowing : Knowing) → inputs.policy ≡ None
    → remembered (merge_counted inputs policy choice) knowing ≡ remembered (merge_counted (without_diff inputs) policy choice) knowing
known_same inputs policy choice knowing none =
    without_policy (λ m. remembered m knowing) inputs policy choice none (known_alone inputs policy choice knowing)

unused_alone : (inputs : Inputs) (policy : Policy) (choice : Option Choosing)
    → unused_in (by_options inputs policy choice) ≡ unused_in (by_options (without_diff inputs) policy choice)
unused_alone inputs policy None = refl
unused_alone inputs policy (Some choosing) = refl

pub unused_same : (inputs : Inputs) (policy : Policy) (choice : Option Choosing) → inputs.policy ≡ None
    → unused_in (merge_counted inputs policy choice) ≡ unused_in (merge_counted (without_diff inputs) policy choice)
unused_same inputs policy choice none = without_policy unused_in inputs policy choice none (unused_alone inputs policy choice)

abbrev accepting_none : Renewal → Renewal
accepting_none renewal = record renewal { accept = false }

module _ (checks : Checks) (file : File) (bytes : Option (List ℕ)) (policy : Policy) (now before : List Placed) where
  file_same : (renewal : Renewal) (change : Option GatedChange) (choice : Option Choosing)
      → renewed (merge_by None checks file bytes change policy choice now before) (accepting_none renewal)
      ≡ renewed (merge_by None checks file bytes None policy choice now before) (accepting_none renewal)
  file_same renewal None choice = refl
  file_same renewal (Some change) None = refl
  file_same renewal (Some change) (Some choosing) = refl

pub pruned_same : (inputs : Inputs) (policy : Policy) (choice : Option Choosing) (renewal : Renewal) → inputs.policy ≡ None → renewal.accept ≡ false
    → renewed (merge_counted inputs policy choice) renewal ≡ renewed (merge_counted (without_diff inputs) policy choice) renewal
pruned_same inputs policy choice renewal none refuses =
    let so : accepting_none renewal ≡ renewal = (λ i. record renewal { accept = sym refuses i }) in
    without_policy (λ m. renewed m renewal) inputs policy choice none
    (subst (λ r. renewed (by_options inputs policy choice) r ≡ renewed (by_options (without_diff inputs) policy choice) r) so
    (file_same inputs.checks (file_given inputs) inputs.suppressions policy (input_runs inputs) (baseline_runs inputs) renewal (change_given inputs) choice))
