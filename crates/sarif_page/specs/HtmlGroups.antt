-- The groups of a page, and its lists.
use Rattle.std.specs.Prelude.{ℕ, ◌+◌, ◌-◌, Bool, ◌&&◌, ◌==◌, List, [], ◌∷◌, ◌++◌, length, take, drop, codes, nat_lt, Option, if◌then◌else◌}
use Rattle.std.specs.List.{count_by, list_any}
use Rattle.std.specs.Fmt.{decimal}
use Rattle.sarif_model.specs.declared.kinds.Level.{Level}
use Rattle.sarif_model.specs.declared.kinds.Level.TheVariants.{NoLevel, Note, Warning, Error}
use Rattle.sarif_model.specs.declared.kinds.State.{State}
use Rattle.sarif_model.specs.declared.kinds.State.TheVariants.{New, Unchanged, Updated, Absent}
use Rattle.sarif_model.specs.Level.{level_name}
use Rattle.sarif_model.specs.State.{state_name}
use Rattle.sarif_counts.specs.Counts.{same_state}
use Rattle.sarif_counts.specs.Tally.{same_level}
use Rattle.sarif_findings.specs.declared.finding.Finding.{Finding}
use Rattle.sarif_shown.specs.Sentences.{counted}
use Rattle.sarif_page.specs.HtmlFixed.{gone_line}
use Rattle.sarif_page.specs.HtmlIndex.{index_html}
use Rattle.sarif_page.specs.HtmlRow.{file_text, rows_html}
use Rattle.sarif_page.specs.HtmlRows.{Group, most_grouped, groups_of, grouped_rows}
use Rattle.sarif_page.specs.HtmlRules.{Rule}

-- ---- numbers by level

abbrev pub number_of : Level → List Finding → ℕ
number_of level rows = count_by (λ f. same_level level f.level) rows

abbrev pub level_text : Level → ℕ → List ℕ
level_text Error n = counted n (codes " error") (codes " errors")
level_text Warning n = counted n (codes " warning") (codes " warnings")
level_text Note n = counted n (codes " note") (codes " notes")
level_text NoLevel n = counted n (codes " of level none") (codes " of level none")

-- the results of a level, if there are any
abbrev pub level_if : Level → ℕ → List ℕ
level_if level n = if n == 0 then [] else level_text level n

-- two strings, with a comma between them if there are both
abbrev pub beside : List ℕ → List ℕ → List ℕ
beside [] second = second
beside (b ∷ bs) [] = b ∷ bs
beside (b ∷ bs) (c ∷ cs) = (b ∷ bs) ++ (codes ", " ++ (c ∷ cs))

-- as `1 error, 2 notes`
unfoldable pub numbers_text : List Finding → List ℕ
numbers_text rows =
    beside (beside (beside (level_if Error (number_of Error rows)) (level_if Warning (number_of Warning rows)))
    (level_if Note (number_of Note rows))) (level_if NoLevel (number_of NoLevel rows))

-- ---- what the boxes show

abbrev pub has_both : Level → State → List Finding → Bool
has_both level state rows = list_any (λ f. same_level level f.level && same_state state f.state) rows

-- as ` error-new`, if a row has both
abbrev pub pair_if : List Finding → Level → State → List ℕ
pair_if rows level state =
    if has_both level state rows then codes " " ++ (level_name level ++ (codes "-" ++ state_name state)) else []

unfoldable pub pairs_with : List Finding → Level → List ℕ
pairs_with rows level =
    pair_if rows level New ++ (pair_if rows level Unchanged
    ++ (pair_if rows level Updated ++ pair_if rows level Absent))

-- the levels and states of these rows, by which the boxes show what has one of them
unfoldable pub pairs_in : List Finding → List ℕ
pairs_in rows =
    pairs_with rows Error ++ (pairs_with rows Warning ++ (pairs_with rows Note ++ pairs_with rows NoLevel))

abbrev pub has_data : List Finding → List ℕ
has_data rows = codes " data-has=\"" ++ (pairs_in rows ++ codes "\"")

-- ---- a group

-- which of these rows of a file
abbrev pub span_text : ℕ → ℕ → List ℕ
span_text first last = if first == last then decimal first else decimal first ++ (codes " to " ++ decimal last)

-- which rows of its file a group has, if it does not have all
abbrev pub part_text : ℕ → ℕ → ℕ → List ℕ
part_text first last all =
    if nat_lt most_grouped all then codes ", " ++ (span_text first last ++ (codes " of " ++ decimal all)) else []

abbrev pub open_word : ℕ → List ℕ
open_word room = if room == 0 then [] else codes " open"

-- the beginning of a group with this number, up to its heading
abbrev pub group_begin : ℕ → ℕ → List Finding → List ℕ
group_begin room number rows =
    codes "<details id=\"f" ++ (decimal number
    ++ (codes "\"" ++ (open_word room ++ (has_data rows ++ codes "><summary><h3>"))))

unfoldable pub group_heading : Group → List ℕ
group_heading g =
    file_text g.rows ++ (part_text g.first g.last g.all
    ++ (codes "</h3> <span>" ++ (numbers_text g.rows ++ codes "</span></summary>\n<ul>\n")))

-- a group with this number, open if there is room above it
unfoldable pub group_html : Option (List ℕ) → ℕ → ℕ → Group → List ℕ
group_html link room number g =
    group_begin room number g.rows ++ (group_heading g ++ (rows_html link g.rows ++ codes "</ul>\n</details>\n"))

-- groups from this number on; those are open before which fewer than `room` rows are
abbrev pub groups_from : Option (List ℕ) → ℕ → ℕ → List Group → List ℕ
groups_from link room number [] = []
groups_from link room number (g ∷ gs) =
    group_html link room number g ++ groups_from link (room - length g.rows) (number + 1) gs

-- ---- a list

-- the most groups that a list shows as it opens, and the rows below which no group of a first list is open
abbrev pub most_groups : ℕ
most_groups = 100

abbrev pub most_open : ℕ
most_open = 20

abbrev pub more_results : ℕ → List ℕ
more_results n = counted n (codes " more result") (codes " more results")

abbrev pub more_begin : List Finding → List ℕ
more_begin rows =
    codes "<details" ++ (has_data rows
    ++ (codes "><summary>" ++ (more_results (length rows)
    ++ (codes " <span>" ++ (numbers_text rows ++ codes "</span></summary>\n")))))

unfoldable pub more_of : Option (List ℕ) → ℕ → List Group → List ℕ
more_of link number groups =
    more_begin (grouped_rows groups) ++ (groups_from link 0 number groups ++ codes "</details>\n")

-- the groups after the first ones, which are within one more
abbrev pub more_groups : Option (List ℕ) → ℕ → List Group → List ℕ
more_groups link number [] = []
more_groups link number (g ∷ gs) = more_of link number (g ∷ gs)

unfoldable pub list_html : Option (List ℕ) → ℕ → ℕ → List Group → List ℕ
list_html link room number groups =
    groups_from link room number (take most_groups groups)
    ++ more_groups link (number + most_groups) (drop most_groups groups)

-- a list without its rows
pub record Part : Type 0 where
  -- the name of its section
  pub name : List ℕ
  pub heading : List ℕ
  -- the template by which places are linked, if they are
  pub link : Option (List ℕ)
  -- its groups are open up to this number of rows
  pub room : ℕ
  -- the number of its first group
  pub number : ℕ
  -- the index of rules, if it has one: the rules that it shows, and how many there are
  pub rules : List Rule
  pub all_rules : ℕ

-- a section, up to its groups
abbrev pub section_begin : List ℕ → List ℕ → List Finding → List ℕ
section_begin name heading rows =
    codes "<section aria-labelledby=\"" ++ (name ++ (codes "\"" ++ (has_data rows
    ++ (codes ">\n<h2 id=\"" ++ (name ++ (codes "\">" ++ (heading ++ (codes "</h2>\n" ++ gone_line))))))))

-- the index and the groups of a list
unfoldable pub section_middle : Part → List Group → List ℕ
section_middle part groups =
    index_html part.number groups part.rules part.all_rules ++ list_html part.link part.room part.number groups

-- the section of a list with these rows
unfoldable pub section_of : Part → List Finding → List ℕ
section_of part rows =
    section_begin part.name part.heading rows
    ++ (section_middle part (groups_of rows) ++ codes "</section>\n")

-- nothing if there are no rows
unfoldable pub section_if : Part → List Finding → List ℕ
section_if part rows = if length rows == 0 then [] else section_of part rows
