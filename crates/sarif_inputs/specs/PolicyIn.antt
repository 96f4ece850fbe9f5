-- The policy of the gate of a merge, and the error of its file.
use Rattle.std.specs.Prelude.{ℕ, Bool, List, [], ◌∷◌, Option, Some, None, Result, Ok, Err, option_map}
use Rattle.sarif_model.specs.declared.fault.Fault.{Fault}
use Rattle.sarif_model.specs.declared.fault.Fault.TheVariants as fault
use Rattle.sarif_model.specs.declared.merge_fault.At.{At}
use Rattle.sarif_model.specs.declared.merge_fault.At.TheVariants as at
use Rattle.sarif_model.specs.declared.merge_fault.MergeFault.{MergeFault}
use Rattle.sarif_model.specs.declared.merge_fault.Source.TheVariants.{Policy}
use Rattle.sarif_model.specs.MergeFault.{cause_of, fault_at}
use Rattle.sarif_policy.specs.File.{policy_of}
use Rattle.sarif_policy.specs.declared.condition.GateCondition.{GateCondition}
use Rattle.sarif_policy.specs.declared.condition.GatePolicy.{GatePolicy}
use Rattle.sarif_policy.specs.declared.fault.FilterList.TheVariants.{Only, Except}
use Rattle.sarif_policy.specs.declared.fault.PolicyCause.{PolicyCause}
use Rattle.sarif_policy.specs.declared.fault.PolicyCause.TheVariants as cause
use Rattle.sarif_policy.specs.declared.fault.PolicyFault.{PolicyFault}
use Rattle.sarif_policy.specs.declared.fault.PolicyPlace.{PolicyPlace}
use Rattle.sarif_policy.specs.declared.fault.PolicyPlace.TheVariants as place

abbrev pub fault_of_cause : PolicyCause → Fault
fault_of_cause cause.NotJson = fault.NotJson
fault_of_cause cause.NotPolicy = fault.NotPolicy
fault_of_cause cause.WrongVersion = fault.WrongVersion
fault_of_cause cause.NoCondition = fault.NoCondition
fault_of_cause cause.TooMany = fault.TooMany
fault_of_cause cause.BadCondition = fault.BadCondition
fault_of_cause cause.BadFilter = fault.BadFilter
fault_of_cause cause.EmptyFilter = fault.EmptyFilter
fault_of_cause cause.SameName = fault.SameName
fault_of_cause cause.NeedsDiff = fault.NeedsDiff

-- the place of an error of the policy among the places of a merge
abbrev pub place_of_policy : PolicyPlace → At
place_of_policy place.Whole = at.Whole Policy
place_of_policy (place.Condition n) = at.Condition n
place_of_policy (place.Filter n Only k) = at.Only n k
place_of_policy (place.Filter n Except k) = at.Except n k

-- the error of a policy, with its place
abbrev pub merge_fault_of_policy : PolicyFault → MergeFault
merge_fault_of_policy wrong =
    fault_at (place_of_policy wrong.at) (cause_of (fault_of_cause wrong.cause))

-- the conditions of a policy, or the first error in it, if there is a policy; `diff` says whether there is a diff
abbrev pub policy_read : Bool → Option (List ℕ)
    → Option (Result (List GateCondition) PolicyFault)
policy_read diff policy = option_map (λ bytes. policy_of bytes diff) policy

abbrev pub faults_of_policy : Option (Result (List GateCondition) PolicyFault) → List MergeFault
faults_of_policy None = []
faults_of_policy (Some (Ok conditions)) = []
faults_of_policy (Some (Err wrong)) = merge_fault_of_policy wrong ∷ []

-- the conditions of a policy, if there is one
abbrev pub conditions_in : Option GatePolicy → Option (List GateCondition)
conditions_in policy = option_map (λ p. p.conditions) policy

abbrev pub conditions_or_none : Option (Result (List GateCondition) PolicyFault)
    → Option (List GateCondition)
conditions_or_none None = None
conditions_or_none (Some (Ok conditions)) = Some conditions
conditions_or_none (Some (Err wrong)) = None
