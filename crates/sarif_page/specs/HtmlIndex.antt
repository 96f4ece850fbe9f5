-- The index of rules.
use Rattle.std.specs.Prelude.{ℕ, ◌+◌, ◌-◌, List, [], ◌∷◌, ◌++◌, Option, Some, None, length, codes, if◌then◌else◌, ◌==◌}
use Rattle.std.specs.List.{list_any}
use Rattle.std.specs.Fmt.{decimal}
use Rattle.sarif_findings.specs.declared.finding.Finding.{Finding}
use Rattle.sarif_shown.specs.declared.escaping.Escaping.TheVariants.{Page}
use Rattle.sarif_shown.specs.Escaped.{escaped}
use Rattle.sarif_shown.specs.Sentences.{counted}
use Rattle.sarif_page.specs.HtmlFixed.{index_begin, index_end}
use Rattle.sarif_page.specs.HtmlRow.{file_text, linked}
use Rattle.sarif_page.specs.HtmlRows.{Group}
use Rattle.sarif_page.specs.HtmlRules.{Rule, is_alike}

-- a link to a group with these rows
abbrev pub group_link : ℕ → List Finding → List ℕ
group_link number rows =
    codes "<a href=\"#f" ++ (decimal number ++ (codes "\"><code>" ++ (file_text rows ++ codes "</code></a>")))

-- a link to the first of these groups with a row of this result's rule and tool; their numbers start with this one
abbrev pub first_link : Finding → ℕ → List Group → List ℕ
first_link f number [] = []
first_link f number (g ∷ gs) =
    if list_any (is_alike f) g.rows then group_link number g.rows else first_link f (number + 1) gs

-- the number of results of a rule, and the rule
unfoldable pub index_front : Rule → List ℕ
index_front r =
    codes "<tr><td>" ++ (decimal r.number
    ++ (codes "</td><th scope=\"row\">" ++ (linked r.first.rule r.first.help r.first.rule_name ++ codes "</th><td>")))

-- the name of a rule, if it has one
abbrev pub name_text : Option (List ℕ) → List ℕ
name_text None = []
name_text (Some name) = escaped Page name

-- the name and the tool of a result's rule
unfoldable pub index_middle : Finding → List ℕ
index_middle f =
    name_text f.rule_name ++ (codes "</td><td>" ++ (escaped Page f.tool ++ codes "</td><td>"))

unfoldable pub index_row : ℕ → List Group → Rule → List ℕ
index_row number groups r =
    index_front r ++ (index_middle r.first ++ (first_link r.first number groups ++ codes "</td></tr>\n"))

abbrev pub index_rows : ℕ → List Group → List Rule → List ℕ
index_rows number groups [] = []
index_rows number groups (r ∷ rs) = index_row number groups r ++ index_rows number groups rs

-- how many rules the index does not show, if there are any
abbrev pub more_rules : ℕ → List ℕ
more_rules n =
    if n == 0 then [] else codes "<p>" ++ (counted n (codes " more rule") (codes " more rules") ++ codes "</p>\n")

-- the index of these rules of a list with these groups, if there are any
unfoldable pub index_of : ℕ → List Group → List Rule → ℕ → List ℕ
index_of number groups rules all =
    codes "<details class=\"rules\"><summary>" ++ (counted all (codes " rule") (codes " rules")
    ++ (index_begin ++ (index_rows number groups rules ++ (index_end
    ++ (more_rules (all - length rules) ++ codes "</details>\n")))))

abbrev pub index_html : ℕ → List Group → List Rule → ℕ → List ℕ
index_html number groups [] all = []
index_html number groups (r ∷ rs) all = index_of number groups (r ∷ rs) all
