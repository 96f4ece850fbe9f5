-- Marks for the suppression entries that matched a result.
use Rattle.std.specs.Prelude.{ℕ, Bool, true, List, [], ◌∷◌, length, map, nat_lt, slice_set, if◌then◌else◌}
use Rattle.std.specs.List.{list_any}
use Rattle.sarif_model.specs.declared.record.Record.{Record}
use Rattle.sarif_entries.specs.Matching.{matches}
use Rattle.sarif_entries.specs.File.{File}

-- for each entry whether it matches one of the results
abbrev pub marks_of : File → List Record → List Bool
marks_of file rs = map (λ e. list_any (λ r. matches file.today e r) rs) file.entries

abbrev pub with_mark : List Bool → ℕ → List Bool
with_mark marks n = if nat_lt n (length marks) then slice_set marks n true else marks

-- the marks with those of these numbers set
abbrev pub with_marks : List Bool → List ℕ → List Bool
with_marks marks [] = marks
with_marks marks (n ∷ ns) = with_marks (with_mark marks n) ns
