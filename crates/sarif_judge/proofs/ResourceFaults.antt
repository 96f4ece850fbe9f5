-- OutOfMemory and NoWorker, if results could not be judged.
use Rattle.std.proofs.Common.{◌≡◌, inl, inr, refl}
use Rattle.sarif_gather.specs.declared.gathering.GatherFault.{GatherFault}
use Rattle.sarif_gather.specs.declared.gathering.GatherFault.TheVariants.{NoWorker, OutOfMemory}
use Rattle.sarif_model.specs.MergeFault.{exit_status}
use Rattle.sarif_model.specs.FirstFault.{IsOutOfResources}
use Rattle.sarif_judge.specs.Internal.ResourceFault.{resource_fault_of}

pub lacks_resources : (fault : GatherFault) → IsOutOfResources (resource_fault_of fault)
lacks_resources NoWorker = inr refl
lacks_resources OutOfMemory = inl refl

pub exits_with_two : (fault : GatherFault) → exit_status (resource_fault_of fault).cause ≡ 2
exits_with_two NoWorker = refl
exits_with_two OutOfMemory = refl
