-- An error of the policy is the first one, and no failed read or write.
use Rattle.std.proofs.Common.{◌≡◌, ◌⊎◌, inr, List, [], Some, Result, Ok, Err, refl, sym, ap}
use Rattle.sarif_model.specs.FirstFault.{first, IsOutOfResources}
use Rattle.sarif_model.specs.MergeFault.{exit_status}
use Rattle.sarif_policy.specs.declared.condition.GateCondition.{GateCondition}
use Rattle.sarif_policy.specs.declared.fault.PolicyFault.{PolicyFault}
use Rattle.sarif_inputs.specs.PolicyIn.{conditions_or_none, faults_of_policy, merge_fault_of_policy}

pub quiet_policy : (found : PolicyFault) → exit_status (merge_fault_of_policy found).cause ≡ 2
quiet_policy found = refl

pub policy_refused : (said : Result (List GateCondition) PolicyFault) (fault : PolicyFault)
    → said ≡ Err fault
    → IsOutOfResources (merge_fault_of_policy fault) ⊎ (first (faults_of_policy (Some said)) ≡ Some (merge_fault_of_policy fault))
policy_refused said fault same = inr (ap (λ r. first (faults_of_policy (Some r))) same)

-- a policy that was read has no error
pub policy_faultless : (said : Result (List GateCondition) PolicyFault) (conditions : List GateCondition)
    → said ≡ Ok conditions → faults_of_policy (Some said) ≡ []
policy_faultless said conditions same = ap (λ r. faults_of_policy (Some r)) same

pub policy_is_read : (said : Result (List GateCondition) PolicyFault) (conditions : List GateCondition)
    → said ≡ Ok conditions → Some conditions ≡ conditions_or_none (Some said)
policy_is_read said conditions same = sym (ap (λ r. conditions_or_none (Some r)) same)
