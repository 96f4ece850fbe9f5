-- Why a merge is rejected: the causes for the errors of the lower crates, and the program's exit status.
use Rattle.std.specs.Prelude.{ℕ}
use Rattle.std.specs.Prelude.{◌≡◌, Bool, true, false, Result, Ok, Err, IfErr}
use Rattle.sarif_model.specs.declared.fault.Fault.{Fault}
use Rattle.sarif_model.specs.declared.merge_fault.At.{At}
use Rattle.sarif_model.specs.declared.merge_fault.At.TheVariants.{Nowhere}
use Rattle.sarif_model.specs.declared.merge_fault.Cause.{Cause}
use Rattle.sarif_model.specs.declared.merge_fault.Cause.TheVariants.{Of, ReadFailed, WriteFailed, OutOfMemory, NoWorker}
use Rattle.sarif_model.specs.declared.merge_fault.MergeFault.{MergeFault}

-- the cause of an error in what was read
abbrev pub cause_of : Fault → Cause
cause_of fault = Of fault

-- the rejection if memory runs out
abbrev pub out_of_memory : MergeFault
out_of_memory = record { at = Nowhere; cause = OutOfMemory }

-- the cause with its place; OutOfMemory and NoWorker have no place
abbrev pub fault_at : At → Cause → MergeFault
fault_at at OutOfMemory = record { at = Nowhere; cause = OutOfMemory }
fault_at at NoWorker = record { at = Nowhere; cause = NoWorker }
fault_at at cause = record { at = at; cause = cause }

-- the program's exit status: 3 if a read or a write failed, otherwise 2
abbrev pub exit_status : Cause → ℕ
exit_status ReadFailed = 3
exit_status WriteFailed = 3
exit_status _ = 2

abbrev pub is_read_failed : Cause → Bool
is_read_failed ReadFailed = true
is_read_failed _ = false

abbrev pub is_write_failed : Cause → Bool
is_write_failed WriteFailed = true
is_write_failed _ = false

-- whether the merge was rejected because a read failed
abbrev pub read_failed_in : {T : Type 0} → Result T MergeFault → Bool
read_failed_in (Ok v) = false
read_failed_in (Err fault) = is_read_failed fault.cause

-- whether the merge was rejected because a write failed
abbrev pub write_failed_in : {T : Type 0} → Result T MergeFault → Bool
write_failed_in (Ok v) = false
write_failed_in (Err fault) = is_write_failed fault.cause

-- neither a read nor a write failed
abbrev pub IsQuiet : {T : Type 0} → Result T MergeFault → Type 0
IsQuiet result = IfErr result (λ fault. exit_status fault.cause ≡ 2)
