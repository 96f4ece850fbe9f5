-- The errors of a suppression file, and where they are.
use Rattle.std.specs.Prelude.{ℕ, Option, Some, None}
use Rattle.sarif_model.specs.declared.fault.Fault.{Fault}
use Rattle.sarif_model.specs.declared.merge_fault.MergeFault.{MergeFault}
use Rattle.sarif_model.specs.declared.merge_fault.At.{At}
use Rattle.sarif_model.specs.declared.merge_fault.At.TheVariants.{Whole, Entry}
use Rattle.sarif_model.specs.declared.merge_fault.Source.TheVariants.{Suppress}
use Rattle.sarif_model.specs.MergeFault.{cause_of, fault_at}
use Rattle.sarif_entries.specs.declared.fault.FileFault.{FileFault}

-- an error of the whole file
abbrev pub whole : Fault → FileFault
whole fault = record { entry = None; fault = fault }

-- an error of entry n
abbrev pub in_entry : ℕ → Fault → FileFault
in_entry n fault = record { entry = Some n; fault = fault }

abbrev pub place_of_entry : Option ℕ → At
place_of_entry None = Whole Suppress
place_of_entry (Some n) = Entry n

-- an error of the suppression file with its place
abbrev pub fault_of_file : FileFault → MergeFault
fault_of_file found = fault_at (place_of_entry found.entry) (cause_of found.fault)
