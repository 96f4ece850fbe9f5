-- An error of the diff is the first one, and no failed read or write.
use Rattle.std.proofs.Common.{◌≡◌, ◌⊎◌, inr, [], Some, Result, Ok, Err, refl, sym, ap}
use Rattle.sarif_diff.specs.declared.fault.DiffFault.{DiffFault}
use Rattle.sarif_diff.specs.declared.fault.DiffFault.TheVariants.{NoChange, AtLine}
use Rattle.sarif_model.specs.FirstFault.{first, IsOutOfResources}
use Rattle.sarif_model.specs.MergeFault.{exit_status}
use Rattle.sarif_scope.specs.declared.gated.GatedChange.{GatedChange}
use Rattle.sarif_inputs.specs.ChangeIn.{change_or_none, fault_of_diff, faults_of_change}

pub quiet_diff : (found : DiffFault) → exit_status (fault_of_diff found).cause ≡ 2
quiet_diff NoChange = refl
quiet_diff (AtLine number wrong) = refl

pub change_refused : (said : Result GatedChange DiffFault) (fault : DiffFault)
    → said ≡ Err fault
    → IsOutOfResources (fault_of_diff fault) ⊎ (first (faults_of_change (Some said)) ≡ Some (fault_of_diff fault))
change_refused said fault same = inr (ap (λ r. first (faults_of_change (Some r))) same)

-- a change that was read has no error
pub change_faultless : (said : Result GatedChange DiffFault) (change : GatedChange)
    → said ≡ Ok change → faults_of_change (Some said) ≡ []
change_faultless said change same = ap (λ r. faults_of_change (Some r)) same

pub change_is_read : (said : Result GatedChange DiffFault) (change : GatedChange)
    → said ≡ Ok change → Some change ≡ change_or_none (Some said)
change_is_read said change same = sym (ap (λ r. change_or_none (Some r)) same)
