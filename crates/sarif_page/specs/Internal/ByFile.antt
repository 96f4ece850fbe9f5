-- Findings by file, as the contracts of the functions that group them see it.
use Rattle.std.specs.Prelude.{◌≡◌, ℕ, Bool, List, [], Option, Some, None, bytes_eq, map, take, flat_map, unwrap_or, if◌then◌else◌}
use Rattle.std.specs.Borrow.{Bor}
use Rattle.std.specs.HashMap.{HashMap, get_by}
use Rattle.std.specs.List.{filter, list_any}
use Rattle.std.specs.Option.{option_map}
use Rattle.std.specs.declared.alloc.Global.{Global}
use Rattle.std.specs.declared.vec.Vec.{Vec}
use Rattle.sarif_findings.specs.declared.finding.Finding.{Finding}
use Rattle.sarif_page.specs.declared.by_file.Grouped.{Grouped}
use Rattle.sarif_page.specs.HtmlRows.{files_of, is_in}

abbrev pub findings_in : List (Bor Finding) → List Finding
findings_in refs = map (λ f. f.now) refs

abbrev pub group_in : Option (Vec (Bor Finding) Global) → Option (List Finding)
group_in group = option_map (λ g. findings_in g.items) group

-- the group of a file, if there is one
abbrev pub group_at : {S : Type 0} → HashMap (Bor (List ℕ)) (Vec (Bor Finding) Global) S → List ℕ
    → Option (List Finding)
group_at groups file = group_in (get_by (λ own. bytes_eq file own.now) groups)

-- whether a file is among these
abbrev pub has_file : List (List ℕ) → List ℕ → Bool
has_file files file = list_any (λ own. bytes_eq file own) files

-- the group that a file has once these findings are grouped by at most this number of files
abbrev pub group_of : ℕ → List Finding → List ℕ → Option (List Finding)
group_of most findings file =
    if has_file (take most (files_of findings)) file then Some (filter (is_in file) findings) else None

-- these findings are grouped by at most this number of files
abbrev pub IsGrouped : ℕ → List Finding → Grouped → Type 0
IsGrouped most findings grouped =
    (map (λ file. file.now) grouped.files.items ≡ take most (files_of findings))
    × ((file : List ℕ) → group_at grouped.groups file ≡ group_of most findings file)

-- the findings of a file's group
abbrev pub rows_at : {S : Type 0} → HashMap (Bor (List ℕ)) (Vec (Bor Finding) Global) S → List ℕ
    → List Finding
rows_at groups file = unwrap_or (group_at groups file) []

-- the findings of all groups, file by file
abbrev pub all_rows : Grouped → List Finding
all_rows grouped = flat_map (rows_at grouped.groups) (map (λ file. file.now) grouped.files.items)
