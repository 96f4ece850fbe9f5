-- The change that a gate is for, as it is read from a diff.
use Rattle.std.specs.Prelude.{ℕ, List, Result}
use Rattle.sarif_model.specs.Members.{result_map}
use Rattle.sarif_diff.specs.Reading.{sections_of}
use Rattle.sarif_diff.specs.declared.fault.DiffFault.{DiffFault}
use Rattle.sarif_diff.specs.declared.section.Change.{Change}
use Rattle.sarif_change.specs.Joined.{sections_joined}
use Rattle.sarif_change.specs.declared.spots.Scope.{Scope}
use Rattle.sarif_scope.specs.Files.{files_of}
use Rattle.sarif_scope.specs.declared.gated.GatedChange.{GatedChange}

-- what a diff changes, with this scope and these roots of URIs
abbrev pub gated : Scope → List (List ℕ) → Change → GatedChange
gated scope roots change = record {
  changed = sections_joined change.sections;
  files = files_of change.sections;
  lines = change.added;
  scope = scope;
  roots = roots;
}

-- the change of a diff with these bytes, or its first error
abbrev pub change_of : Scope → List (List ℕ) → List ℕ → Result GatedChange DiffFault
change_of scope roots bytes = result_map (gated scope roots) (sections_of bytes)
