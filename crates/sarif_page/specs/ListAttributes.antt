-- The attributes of a list of the page: those of its groups, of their rows and of the index of rules.
use Rattle.std.specs.Prelude.{ℕ, ◌+◌, ◌==◌, List, [], ◌∷◌, ◌++◌, Option, take, drop, codes, length, flat_map, if◌then◌else◌}
use Rattle.std.specs.List.{list_any}
use Rattle.std.specs.Fmt.{decimal}
use Rattle.sarif_findings.specs.declared.finding.Finding.{Finding}
use Rattle.sarif_page.specs.HtmlAttributes.{Attribute, attributes_in, link_attributes, row_attributes}
use Rattle.sarif_page.specs.HtmlFixed.{index_begin}
use Rattle.sarif_page.specs.HtmlGroups.{Part, most_groups, pairs_in}
use Rattle.sarif_page.specs.HtmlRows.{Group, groups_of, grouped_rows}
use Rattle.sarif_page.specs.HtmlRules.{Rule, is_alike}

-- ---- the groups

-- which levels and states these rows have
abbrev pub has_attribute : List Finding → Attribute
has_attribute rows = (codes "data-has=", pairs_in rows)

-- a group: its `id` is `f` and its number
abbrev pub group_attributes : Option (List ℕ) → ℕ → List Finding → List Attribute
group_attributes link number rows =
    (codes "id=", codes "f" ++ decimal number)
    ∷ (has_attribute rows ∷ flat_map (row_attributes link) rows)

-- groups from this number on
abbrev pub groups_attributes : Option (List ℕ) → ℕ → List Group → List Attribute
groups_attributes link number [] = []
groups_attributes link number (g ∷ gs) =
    group_attributes link number g.rows ++ groups_attributes link (number + 1) gs

-- the groups after the first ones, which are within one more without an `id`
abbrev pub more_attributes : Option (List ℕ) → ℕ → List Group → List Attribute
more_attributes link number [] = []
more_attributes link number (g ∷ gs) =
    has_attribute (grouped_rows (g ∷ gs)) ∷ groups_attributes link number (g ∷ gs)

abbrev pub list_attributes : Option (List ℕ) → ℕ → List Group → List Attribute
list_attributes link number groups =
    groups_attributes link number (take most_groups groups)
    ++ more_attributes link (number + most_groups) (drop most_groups groups)

-- ---- the index of rules

-- the link to the first of these groups with a row of this result's rule and tool
abbrev pub first_attributes : Finding → ℕ → List Group → List Attribute
first_attributes f number [] = []
first_attributes f number (g ∷ gs) =
    if list_any (is_alike f) g.rows then (codes "href=", codes "#f" ++ decimal number) ∷ []
    else first_attributes f (number + 1) gs

-- a rule: its address if it has one, and the link to its first group
abbrev pub index_row_attributes : ℕ → List Group → Rule → List Attribute
index_row_attributes number groups r =
    (codes "scope=", codes "row") ∷ (link_attributes r.first.help r.first.rule_name
    ++ first_attributes r.first number groups)

abbrev pub index_attributes : ℕ → List Group → List Rule → List Attribute
index_attributes number groups [] = []
index_attributes number groups (r ∷ rs) =
    (codes "class=", codes "rules") ∷ (attributes_in index_begin
    ++ flat_map (index_row_attributes number groups) (r ∷ rs))

-- ---- the section of a list

abbrev pub heading_attributes : List ℕ → List Finding → List Attribute
heading_attributes name rows =
    (codes "aria-labelledby=", name) ∷ (has_attribute rows ∷ ((codes "id=", name)
    ∷ ((codes "class=", codes "gone") ∷ [])))

-- nothing if there are no rows
abbrev pub section_attributes : Part → List Finding → List Attribute
section_attributes part rows =
    if length rows == 0 then []
    else heading_attributes part.name rows ++ (index_attributes part.number (groups_of rows) part.rules
    ++ list_attributes part.link part.number (groups_of rows))
