-- The rejections if memory ran out or a thread could not be started.
use Rattle.sarif_gather.specs.declared.gathering.GatherFault.{GatherFault}
use Rattle.sarif_gather.specs.declared.gathering.GatherFault.TheVariants.{NoWorker, OutOfMemory}
use Rattle.sarif_model.specs.declared.merge_fault.MergeFault.{MergeFault}
use Rattle.sarif_model.specs.MergeFault.{out_of_memory}
use Rattle.sarif_model.specs.FirstFault.{no_worker}

-- the rejection if results could not be judged
abbrev pub resource_fault_of : GatherFault → MergeFault
resource_fault_of NoWorker = no_worker
resource_fault_of OutOfMemory = out_of_memory
