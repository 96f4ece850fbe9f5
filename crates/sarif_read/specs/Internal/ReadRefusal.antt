-- Why a log is not read.
use Rattle.std.specs.Prelude.{ℕ, Some, None}
use Rattle.json_parts.specs.declared.indexing.IndexFault as indexing
use Rattle.json_parts.specs.declared.indexing.IndexFault.TheVariants as index
use Rattle.sarif_model.specs.declared.fault.Fault.{Fault}
use Rattle.sarif_model.specs.declared.fault.Fault.TheVariants.{NotJson}
use Rattle.sarif_model.specs.declared.refusal.Refusal.{Refusal}
use Rattle.sarif_model.specs.declared.refusal.Refusal.TheVariants as refusal
use Rattle.sarif_read.specs.declared.read_fault.ReadFault.{ReadFault}

-- an error that names no run
abbrev pub whole : Fault → ReadFault
whole fault = record { run = None; fault = fault }

abbrev pub refusal_of_fault : Refusal Fault → Refusal ReadFault
refusal_of_fault (refusal.Fault fault) = refusal.Fault (whole fault)
refusal_of_fault refusal.OutOfMemory = refusal.OutOfMemory

abbrev pub refusal_of_index : indexing.IndexFault → Refusal ReadFault
refusal_of_index index.NotJson = refusal.Fault (whole NotJson)
refusal_of_index index.OutOfMemory = refusal.OutOfMemory

-- the error of run n; out of memory names no run
abbrev pub refusal_at : ℕ → Refusal Fault → Refusal ReadFault
refusal_at n (refusal.Fault fault) = refusal.Fault (record { run = Some n; fault = fault })
refusal_at n refusal.OutOfMemory = refusal.OutOfMemory
