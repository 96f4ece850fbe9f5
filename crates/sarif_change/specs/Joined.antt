-- Sections of several commits. A name that several sections have is that of a file which several commits change: the line
-- numbers of one commit aren't those of the next, so the files of these sections are changed whole.
use Rattle.std.specs.Prelude.{ℕ, Bool, ◌||◌, nat_le, List, ◌∷◌, map, count_by, bytes_eq}
use Rattle.std.specs.List.{list_any}
use Rattle.std.specs.Option.{option_to_list}
use Rattle.sarif_diff.specs.declared.section.Section.{Section}

-- the names that a section has: that of its file, and the one before a rename
abbrev pub names_of : Section → List (List ℕ)
names_of s = s.name ∷ option_to_list s.old

abbrev pub has_name : List ℕ → Section → Bool
has_name name s = list_any (λ own. bytes_eq own name) (names_of s)

-- whether several of these sections have that name
abbrev pub is_shared : List Section → List ℕ → Bool
is_shared sections name = nat_le 2 (count_by (has_name name) sections)

-- a section among these: its file is changed whole if several have one of its names
abbrev pub joined_among : List Section → Section → Section
joined_among sections s =
    record s { whole = s.whole || list_any (is_shared sections) (names_of s) }

abbrev pub sections_joined : List Section → List Section
sections_joined sections = map (joined_among sections) sections
