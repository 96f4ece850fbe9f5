-- What a source gives at a read: what the file or the stream gave that it reads. `left` is what a file has left.
use Rattle.std.specs.Prelude.{◌≡◌, ℕ, List, Option, Result, Ok, IsErr, ⊤}
use Rattle.std.specs.Io.KnownBytes.{ReadConsumes}
use Rattle.sarif_streams.specs.declared.files.InputFile.{InputFile}
use Rattle.sarif_streams.specs.declared.files.Stage.{Stage}
use Rattle.sarif_streams.specs.declared.files.Stage.TheVariants.{Unopened, Open, Ended}
use Rattle.sarif_streams.specs.declared.input.Input.{Input}
use Rattle.sarif_streams.specs.declared.input.Input.TheVariants.{File, Standard}

-- the first read is of the file that it opens, the others are of that file; one that ended gives nothing
abbrev pub GivesAs : {F E : Type 0} → (F → Option (List ℕ))
    → Stage F → Stage F → Result ℕ E → List ℕ → Type 0
GivesAs left Unopened Unopened r buf = IsErr r
GivesAs {F} left Unopened (Open after) r buf =
    (before : F) × ReadConsumes (left before) (left after) r buf
GivesAs {F} left Unopened Ended r buf =
    (before : F) × (after : F) × ReadConsumes (left before) (left after) r buf
GivesAs left (Open before) Unopened r buf = ⊥
GivesAs left (Open before) (Open after) r buf = ReadConsumes (left before) (left after) r buf
GivesAs {F} left (Open before) Ended r buf =
    (after : F) × ReadConsumes (left before) (left after) r buf
GivesAs left Ended Unopened r buf = ⊥
GivesAs left Ended (Open after) r buf = ⊥
GivesAs left Ended Ended r buf = r ≡ Ok 0

-- the result of a read of a file or a standard stream; `rest` is what a standard stream has left
abbrev pub InputGivesAs : {R I F D E : Type 0} → (F → Option (List ℕ)) → (I → Option (List ℕ))
    → Input R I F D → Input R I F D → Result ℕ E → List ℕ → Type 0
InputGivesAs left rest (File old) (File new) r buf = GivesAs left old.stage new.stage r buf
InputGivesAs left rest (File old) (Standard new) r buf = ⊥
InputGivesAs left rest (Standard old) (File new) r buf = ⊥
InputGivesAs left rest (Standard old) (Standard new) r buf =
    ReadConsumes (rest old) (rest new) r buf

-- the files that a source reads before and after a read have this relation; a standard stream stays one
abbrev pub OfInputs : {R I F D : Type 0} → (InputFile R F D → InputFile R F D → Type 0)
    → Input R I F D → Input R I F D → Type 0
OfInputs relation (File old) (File new) = relation old new
OfInputs relation (File old) (Standard new) = ⊥
OfInputs relation (Standard old) (File new) = ⊥
OfInputs relation (Standard old) (Standard new) = ⊤
