-- An error of the suppression file is the first one.
use Rattle.std.proofs.Common.{◌≡◌, ◌⊎◌, inr, Some, Result, Err, ap}
use Rattle.sarif_entries.specs.File.{File}
use Rattle.sarif_entries.specs.declared.fault.FileFault.{FileFault}
use Rattle.sarif_entries.specs.FileFault.{fault_of_file}
use Rattle.sarif_model.specs.FirstFault.{first, IsOutOfResources}
use Rattle.sarif_inputs.specs.Faults.{file_faults}

pub file_refused : (said : Result File FileFault) (fault : FileFault)
    → said ≡ Err fault
    → IsOutOfResources (fault_of_file fault) ⊎ (first (file_faults said) ≡ Some (fault_of_file fault))
file_refused said fault same = inr (ap (λ r. first (file_faults r)) same)
