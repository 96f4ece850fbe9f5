-- What a merge gives for later merges.
use Rattle.std.specs.Prelude.{◌≡◌, ◌⊎◌, [], Option, Some, None}
use Rattle.sarif_counts.specs.declared.life.Life.{Life}
use Rattle.sarif_options.specs.declared.policy.Policy.{Policy}
use Rattle.sarif_options.specs.declared.upkeep.Upkeep.{Upkeep}
use Rattle.sarif_model.specs.declared.merge_fault.MergeFault.{MergeFault}
use Rattle.sarif_model.specs.FirstFault.{first, IsOutOfResources}
use Rattle.sarif_upkeep.specs.Life.{life_faults}
use Rattle.sarif_upkeep.specs.Merge.{Merge}
use Rattle.sarif_prepare.specs.By.{merge_by}
use Rattle.sarif_choice.specs.declared.choice.Choosing.{Choosing}
use Rattle.sarif_prepare.specs.Kept.{merge_of, IsKept}
use Rattle.sarif_inputs.specs.Faults.{faults_of, first_fault}
use Rattle.sarif_inputs.specs.Inputs.{Inputs, input_runs, baseline_runs}
use Rattle.sarif_merge.specs.MergedLog.{change_given, conditions_given, file_given}

-- the merge of these inputs under this policy, if each result is counted
abbrev pub merge_in : Inputs → Policy → Merge
merge_in inputs policy =
    merge_of inputs.checks (file_given inputs) inputs.suppressions (change_given inputs) policy
    (input_runs inputs) (baseline_runs inputs)

-- the merge of the results that are counted, with what the conditions of the policy decide, if there is one, and with the
-- choice of hits, if there is one
abbrev pub merge_counted : Inputs → Policy → Option Choosing → Merge
merge_counted inputs policy choice =
    merge_by (conditions_given inputs) inputs.checks (file_given inputs) inputs.suppressions
    (change_given inputs) policy choice (input_runs inputs) (baseline_runs inputs)

-- nothing for later merges
abbrev pub no_life : Life
no_life = record { suppressions = None; unused = None; known = None }

-- what is for later merges is what was requested and nothing else, and each file of it is read as it is defined
abbrev pub IsLifeOf : Inputs → Policy → Option Choosing → Option Upkeep → Life → Type 0
IsLifeOf inputs policy choice upkeep life = IsKept (merge_counted inputs policy choice) upkeep life

-- the first error of what was requested for later merges: a place or a rule that fits no chosen hit, and then a file
-- that could not be read again
abbrev pub IsTooLarge : Inputs → Policy → Option Choosing → Option Upkeep → MergeFault → Type 0
IsTooLarge inputs policy choice upkeep fault =
    first (life_faults (merge_counted inputs policy choice) upkeep) ≡ Some fault

-- why a merge that was read is rejected: memory ran out, a thread could not be started, or this is the first error of
-- the inputs; or they have none, and this is the first of what was requested for later merges
abbrev pub IsRefusal : Inputs → Policy → Option Choosing → Option Upkeep → MergeFault → Type 0
IsRefusal inputs policy choice upkeep fault =
    (IsOutOfResources fault ⊎ (first_fault inputs ≡ Some fault))
    ⊎ ((faults_of inputs ≡ []) × IsTooLarge inputs policy choice upkeep fault)
