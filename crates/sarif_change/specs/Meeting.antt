-- Which file of a change a URI may be, and whether a place meets the change.
use Rattle.std.specs.Prelude.{ℕ, Bool, true, false, not, ◌&&◌, ◌||◌, nat_le, List, [], ◌∷◌, Option, Some, None, bytes_eq}
use Rattle.std.specs.List.{list_any}
use Rattle.sarif_diff.specs.declared.section.Section.{Section}
use Rattle.sarif_diff.specs.declared.section.Span.{Span}
use Rattle.sarif_change.specs.Parts.{parts_of, end_alike}
use Rattle.sarif_change.specs.Uri.{Path, paths_of}

-- whether the last parts are equal
abbrev pub has_last : List ℕ → List (List ℕ) → Bool
has_last part [] = false
has_last part (last ∷ parts) = bytes_eq last part

abbrev pub last_alike : List (List ℕ) → List (List ℕ) → Bool
last_alike [] qs = false
last_alike (p ∷ ps) qs = has_last p qs

abbrev pub has_no_parts : List (List ℕ) → Bool
has_no_parts [] = true
has_no_parts (p ∷ ps) = false

-- whether a path may be a file with these parts, which may be a symbolic link: it may be a folder
abbrev pub path_may_be : Bool → List (List ℕ) → Path → Bool
path_may_be link file path =
    has_no_parts path.1 || has_no_parts file
    || (not path.0 && end_alike file path.1)
    || (path.0 && last_alike path.1 file)
    || (link && list_any (λ part. has_last part file) path.1)

-- whether a URI may be the file of a section
abbrev pub may_be : List (List ℕ) → List ℕ → Section → Bool
may_be roots uri s = list_any (path_may_be s.link (parts_of s.name)) (paths_of roots uri)

-- whether these lines have a line of that span
abbrev pub touches : Span → Span → Bool
touches lines span = nat_le span.first lines.last && nat_le lines.first span.last

-- whether a section changes one of these lines; without lines, in any case
abbrev pub changes : Option Span → Section → Bool
changes None s = true
changes (Some lines) s = s.whole || list_any (touches lines) s.spans

-- whether a place with that URI and these lines meets what the sections change
abbrev pub meets : List Section → List (List ℕ) → List ℕ → Option Span → Bool
meets sections roots uri lines = list_any (λ s. may_be roots uri s && changes lines s) sections
