-- Trees of files.
use Rattle.std.specs.Prelude.{◌≡◌, ◌≤◌, true, List, [], ◌∷◌, ◌++◌, length, Option}
use Rattle.std.specs.List.{list_any, list_all}
use Rattle.sarif_diff.specs.declared.section.Span.{Span}
use Rattle.sarif_change.specs.Internal.Files.{changed_at}
use Rattle.sarif_change.specs.Internal.Keys.{opens}
use Rattle.sarif_change.specs.Internal.NextBytes.{is_next}
use Rattle.sarif_change.specs.declared.file.ChangedFile.{ChangedFile}
use Rattle.sarif_change.specs.declared.file.SharedPart.{SharedPart}
use Rattle.sarif_change.specs.declared.tree.Node.{Node}
use Rattle.sarif_change.specs.declared.tree.Node.TheVariants.{One, Two}

abbrev pub files_in : Node → List ChangedFile
files_in (One file) = file ∷ []
files_in (Two left shared right) = left.value ++ right.value

-- the keys of all files begin with the shared beginning, and go on with one of the shared next bytes; the shared part
-- changes exactly what any of them changes
pub record IsShared (shared : SharedPart) (files : List ChangedFile) : Type 0 where
  pub beginning : list_all (λ file. opens file.key.items shared.beginning.items) files ≡ true
  pub next : list_all (λ file. is_next shared.next (length shared.beginning.items) file.key.items) files ≡ true
  pub changed : (lines : Option Span)
      → changed_at lines shared.changed ≡ list_any (λ file. changed_at lines file.changed) files

abbrev pub IsRight : Node → Type 0
IsRight (One file) = Unit {0}
IsRight (Two left shared right) =
    (1 ≤ length left.value) × (1 ≤ length right.value) × IsShared shared (left.value ++ right.value)
