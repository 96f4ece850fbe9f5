-- The suppression file of a merge, if it has one.
use Rattle.std.specs.Prelude.{ℕ, List, [], Option, Some, None, Result, Ok}
use Rattle.sarif_entries.specs.declared.fault.FileFault.{FileFault}
use Rattle.sarif_entries.specs.File.{File, file_of}

-- the file as its bytes are read for that date; without a file there are no entries
abbrev pub file_or_none : Option (List ℕ) → Option ℕ → Result File FileFault
file_or_none None today = Ok (record { entries = []; today = today })
file_or_none (Some bytes) today = file_of bytes today
