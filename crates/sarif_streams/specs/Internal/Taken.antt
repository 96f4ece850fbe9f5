-- What an output takes at a write: what the file or the stream took that it writes. `held` is what a file holds.
use Rattle.std.specs.Prelude.{◌≡◌, ℕ, List, Option, Some, None, Result, ⊤}
use Rattle.std.specs.Io.KnownBytes.{WriteAppends}
use Rattle.sarif_streams.specs.Internal.Writing.{file_of}
use Rattle.sarif_streams.specs.declared.output.OutputFile.{OutputFile}
use Rattle.sarif_streams.specs.declared.target.Console.{Console}
use Rattle.sarif_streams.specs.declared.target.Console.TheVariants.{Output, Error}
use Rattle.sarif_streams.specs.declared.target.Target.{Target}
use Rattle.sarif_streams.specs.declared.target.Target.TheVariants.{File, Standard}

-- the open file; if none was open, any file: the one that the write opened
abbrev pub IsOpenBefore : {F : Type 0} → Option F → F → Type 0
IsOpenBefore None before = ⊤
IsOpenBefore (Some file) before = file ≡ before

-- by the file that is open before a write, and by the file after it
abbrev pub TakesAs : {F E : Type 0} → (F → Option (List ℕ))
    → Option F → Option F → Result ℕ E → List ℕ → Type 0
TakesAs held old None r buf = ⊤
TakesAs {F} held old (Some after) r buf =
    (before : F) × IsOpenBefore old before × WriteAppends (held before) (held after) r buf

-- the result of a write to a file or a standard stream; `sent` is what a standard stream holds
abbrev pub TargetTakesAs : {R O F D E : Type 0} → (F → Option (List ℕ)) → (O → Option (List ℕ))
    → Target R O F D → Target R O F D → Result ℕ E → List ℕ → Type 0
TargetTakesAs held sent (File old) (File new) r buf =
    TakesAs held (file_of old.writing) (file_of new.writing) r buf
TargetTakesAs held sent (File old) (Standard new) r buf = ⊥
TargetTakesAs held sent (Standard old) (File new) r buf = ⊥
TargetTakesAs held sent (Standard old) (Standard new) r buf =
    WriteAppends (sent old) (sent new) r buf

-- the files that an output writes before and after a write have this relation; a standard stream stays one
abbrev pub OfOutputs : {R O F D : Type 0} → (OutputFile R F → OutputFile R F → Type 0)
    → Target R O F D → Target R O F D → Type 0
OfOutputs relation (File old) (File new) = relation old new
OfOutputs relation (File old) (Standard new) = ⊥
OfOutputs relation (Standard old) (File new) = ⊥
OfOutputs relation (Standard old) (Standard new) = ⊤

-- what a stream for the summary holds
abbrev pub console_held : {O E : Type 0} → (O → Option (List ℕ)) → (E → Option (List ℕ))
    → Console O E → Option (List ℕ)
console_held sent said (Output output) = sent output
console_held sent said (Error error) = said error
