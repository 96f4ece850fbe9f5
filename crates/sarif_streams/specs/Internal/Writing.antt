-- How far an output is.
use Rattle.std.specs.Prelude.{Option, Some, None}
use Rattle.sarif_streams.specs.declared.output.Writing.{Writing}
use Rattle.sarif_streams.specs.declared.output.Writing.TheVariants.{Unopened, AsIs, Beside, Over}

-- the open file, if there is one
abbrev pub file_of : {F : Type 0} → Writing F → Option F
file_of Unopened = None
file_of (AsIs file) = Some file
file_of (Beside file) = Some file
file_of Over = None
