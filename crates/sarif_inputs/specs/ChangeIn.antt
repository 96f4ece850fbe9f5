-- The change that the gate of a merge checks, and the error of its diff.
use Rattle.std.specs.Prelude.{ℕ, List, [], ◌∷◌, Option, Some, None, Result, Ok, Err, option_map}
use Rattle.sarif_model.specs.declared.fault.Fault.TheVariants as fault
use Rattle.sarif_model.specs.declared.merge_fault.At.TheVariants.{Whole, Line}
use Rattle.sarif_model.specs.declared.merge_fault.MergeFault.{MergeFault}
use Rattle.sarif_model.specs.declared.merge_fault.Source.TheVariants.{Diff}
use Rattle.sarif_model.specs.MergeFault.{cause_of, fault_at}
use Rattle.sarif_diff.specs.declared.fault.DiffFault.{DiffFault}
use Rattle.sarif_diff.specs.declared.fault.DiffFault.TheVariants.{NoChange, AtLine}
use Rattle.sarif_diff.specs.declared.fault.LineFault.{LineFault}
use Rattle.sarif_diff.specs.declared.fault.LineFault.TheVariants as line
use Rattle.sarif_model.specs.declared.fault.Fault.{Fault}
use Rattle.sarif_options.specs.declared.checks.Checks.{Checks}
use Rattle.sarif_scope.specs.Reading.{change_of}
use Rattle.sarif_scope.specs.declared.gated.GatedChange.{GatedChange}

abbrev pub fault_of_line : LineFault → Fault
fault_of_line line.Combined = fault.Combined
fault_of_line line.BadHunk = fault.BadHunk
fault_of_line line.BadHeader = fault.BadHeader
fault_of_line line.Submodule = fault.Submodule
fault_of_line line.TooMany = fault.TooMany

-- the error of a diff, with its place
abbrev pub fault_of_diff : DiffFault → MergeFault
fault_of_diff NoChange = fault_at (Whole Diff) (cause_of fault.NoChange)
fault_of_diff (AtLine number wrong) = fault_at (Line number) (cause_of (fault_of_line wrong))

-- the change of a diff, or the first error in it, if there is a diff
abbrev pub change_read : Checks → Option (List ℕ) → Option (Result GatedChange DiffFault)
change_read checks diff = option_map (change_of checks.scope checks.roots) diff

abbrev pub faults_of_change : Option (Result GatedChange DiffFault) → List MergeFault
faults_of_change None = []
faults_of_change (Some (Ok change)) = []
faults_of_change (Some (Err wrong)) = fault_of_diff wrong ∷ []

abbrev pub change_or_none : Option (Result GatedChange DiffFault) → Option GatedChange
change_or_none None = None
change_or_none (Some (Ok change)) = Some change
change_or_none (Some (Err wrong)) = None
