-- What reading a file of arguments gives.
use Rattle.std.specs.Prelude.{ℕ, List, Result, Ok, Err, Vec, ⊤}
use Rattle.sarif_model.specs.declared.refusal.Refusal.{Refusal}
use Rattle.sarif_model.specs.declared.refusal.Refusal.TheVariants as refusal
use Rattle.sarif_streams.specs.declared.source.SourceFault.{SourceFault}

-- what reading a file gave: its bytes, or why it was not read
abbrev pub Read : Type 0
Read = Result (List ℕ) SourceFault

-- a fact about what a call read, unless memory ran out
abbrev pub IfRead : {A : Type 0} → (Read → Type 0) → Result (Vec ℕ A) (Refusal SourceFault) → Type 0
IfRead holds (Ok bytes) = holds (Ok bytes.items)
IfRead holds (Err (refusal.Fault fault)) = holds (Err fault)
IfRead holds (Err refusal.OutOfMemory) = ⊤
