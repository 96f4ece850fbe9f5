-- Why a merge is rejected if its sources are not all read.
use Rattle.sarif_streams.specs.declared.readers.ReadersFault.{ReadersFault}
use Rattle.sarif_streams.specs.declared.source.SourceFault.{SourceFault}
use Rattle.sarif_streams.specs.declared.source.SourceFault.TheVariants as source
use Rattle.sarif_model.specs.declared.merge_fault.At.TheVariants.{Whole}
use Rattle.sarif_model.specs.declared.merge_fault.Cause.{Cause}
use Rattle.sarif_model.specs.declared.merge_fault.Cause.TheVariants.{TooLong, ReadFailed}
use Rattle.sarif_model.specs.declared.merge_fault.MergeFault.{MergeFault}
use Rattle.sarif_model.specs.declared.refusal.Refusal.{Refusal}
use Rattle.sarif_model.specs.declared.refusal.Refusal.TheVariants as refusal
use Rattle.sarif_model.specs.MergeFault.{out_of_memory}

-- why a source was not read, as a cause
abbrev pub cause_of_source : SourceFault → Cause
cause_of_source source.ReadFailed = ReadFailed
cause_of_source source.TooLong = TooLong

-- the rejection if not all sources were read
abbrev pub fault_of_readers : Refusal ReadersFault → MergeFault
fault_of_readers (refusal.Fault found) =
    record { at = Whole found.source; cause = cause_of_source found.fault }
fault_of_readers refusal.OutOfMemory = out_of_memory
