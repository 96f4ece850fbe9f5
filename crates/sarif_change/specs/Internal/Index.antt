-- The files of the sections, and those of them that are symbolic links.
use Rattle.std.specs.Prelude.{◌≡◌, ℕ, Bool, true, ◌&&◌, ◌||◌, List, [], ◌∷◌, ◌++◌, take, Option, unwrap_or, if◌then◌else◌}
use Rattle.std.specs.List.{list_any, list_all}
use Rattle.sarif_diff.specs.declared.section.Section.{Section}
use Rattle.sarif_diff.specs.declared.section.Span.{Span}
use Rattle.sarif_change.specs.Meeting.{changes, has_last}
use Rattle.sarif_change.specs.Parts.{parts_of, end_alike}
use Rattle.sarif_change.specs.Uri.{Path}
use Rattle.sarif_change.specs.Internal.Files.{found_at}
use Rattle.sarif_change.specs.Internal.Keys.{joined, has_no_slash}
use Rattle.sarif_change.specs.declared.file.ChangedFile.{ChangedFile}

-- whether the parts of a section's file and these end alike, and it changes one of these lines
abbrev pub is_ending : List (List ℕ) → Option Span → Section → Bool
is_ending parts lines s = end_alike (parts_of s.name) parts && changes lines s

-- whether a section is a symbolic link of that name, and changes one of these lines
abbrev pub is_link_named : List ℕ → Option Span → Section → Bool
is_link_named part lines s = (s.link && has_last part (parts_of s.name)) && changes lines s

-- the files are those of the sections
abbrev pub HaveFiles : List ChangedFile → List Section → Type 0
HaveFiles files sections = (parts : List (List ℕ)) (lines : Option Span) → list_all has_no_slash parts ≡ true
    → list_any (found_at (joined parts) lines) files ≡ list_any (is_ending parts lines) sections

-- the links are those of the sections, each by its last part alone
abbrev pub HaveLinks : List ChangedFile → List Section → Type 0
HaveLinks links sections = (part : List ℕ) (lines : Option Span) → has_no_slash part ≡ true
    → list_any (found_at (part ++ 47 ∷ []) lines) links ≡ list_any (is_link_named part lines) sections

abbrev pub tree_files : Option (List ChangedFile) → List ChangedFile
tree_files tree = unwrap_or tree []

-- whether a symbolic link has this name, and changes one of these lines
abbrev pub is_linked : Option (List ChangedFile) → Option Span → List ℕ → Bool
is_linked tree lines part = list_any (found_at (part ++ 47 ∷ []) lines) (tree_files tree)

pub record IsIndex (file_tree link_tree : Option (List ChangedFile)) (sections : List Section) : Type 0 where
  pub files : HaveFiles (tree_files file_tree) sections
  pub links : HaveLinks (tree_files link_tree) sections

-- the parts that are looked for: the last alone if the path is absolute
abbrev pub sought_parts : Path → List (List ℕ)
sought_parts path = if path.0 then take 1 path.1 else path.1

-- what is found of a path
abbrev pub is_found : List Section → Option Span → Path → Bool
is_found sections lines path =
    list_any (is_ending (sought_parts path) lines) sections
    || list_any (λ part. list_any (is_link_named part lines) sections) path.1
