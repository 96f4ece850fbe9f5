-- How many files a diff changes: each name of its sections once.
use Rattle.std.specs.Prelude.{ℕ, ◌+◌, Bool, List, [], ◌∷◌, ◌++◌, bytes_eq, if◌then◌else◌}
use Rattle.std.specs.List.{list_any}
use Rattle.sarif_diff.specs.declared.section.Section.{Section}

-- whether one of these sections has that name
abbrev pub is_named : List Section → List ℕ → Bool
is_named sections name = list_any (λ s. bytes_eq s.name name) sections

-- how many of the second sections have a name that no section before them has; the first ones are before all of them
abbrev pub files_after : List Section → List Section → ℕ
files_after before [] = 0
files_after before (s ∷ ss) =
    (if is_named before s.name then 0 else 1) + files_after (before ++ s ∷ []) ss

abbrev pub files_of : List Section → ℕ
files_of sections = files_after [] sections
