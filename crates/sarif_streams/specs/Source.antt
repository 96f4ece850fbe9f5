-- Reading a source whole.
use Rattle.std.specs.Prelude.{ℕ, ◌<◌, ◌≤◌, List, length, Bool, true, false, Result, Ok, Err}
use Rattle.sarif_model.specs.Limits.{most_bytes}
use Rattle.sarif_streams.specs.declared.source.SourceFault.{SourceFault}
use Rattle.sarif_streams.specs.declared.source.SourceFault.TheVariants.{ReadFailed, TooLong}
use Rattle.sarif_model.specs.declared.refusal.Refusal.{Refusal}
use Rattle.sarif_model.specs.declared.refusal.Refusal.TheVariants as refusal

abbrev pub IsWithinLimit : List ℕ → Type 0
IsWithinLimit bytes = length bytes ≤ most_bytes

abbrev pub IsPastLimit : List ℕ → Type 0
IsPastLimit bytes = most_bytes < length bytes

-- whether this error is a failed read
abbrev pub is_failed_read : SourceFault → Bool
is_failed_read ReadFailed = true
is_failed_read TooLong = false

-- whether a read of the reader failed
abbrev pub read_has_failed : {T : Type 0} → Result T (Refusal SourceFault) → Bool
read_has_failed (Ok v) = false
read_has_failed (Err (refusal.Fault fault)) = is_failed_read fault
read_has_failed (Err refusal.OutOfMemory) = false
