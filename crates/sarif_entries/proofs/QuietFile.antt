-- No error of what was read is a failed read or a failed write. No public clause cites this.
use Rattle.std.proofs.Common.{◌≡◌, refl}
use Rattle.sarif_entries.specs.declared.fault.FileFault.{FileFault}
use Rattle.sarif_entries.specs.FileFault.{fault_of_file}
use Rattle.sarif_model.specs.MergeFault.{exit_status}

-- no error of the suppression file is one
pub quiet_file : (found : FileFault) → exit_status (fault_of_file found).cause ≡ 2
quiet_file found = refl
