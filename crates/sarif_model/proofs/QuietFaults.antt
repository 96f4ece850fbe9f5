-- Which rejections say that a read or a write failed: none for an error in what was read. Internal: no public
-- contract refers to these.
use Rattle.std.proofs.Common.{◌≡◌, refl}
use Rattle.sarif_model.specs.declared.fault.Fault.{Fault}
use Rattle.sarif_model.specs.declared.merge_fault.At.{At}
use Rattle.sarif_model.specs.MergeFault.{cause_of, fault_at, exit_status}

pub quiet_fault : (at : At) (fault : Fault) → exit_status (fault_at at (cause_of fault)).cause ≡ 2
quiet_fault at fault = refl
