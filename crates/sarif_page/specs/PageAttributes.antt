-- The attributes of the whole page. Text that is the same on each page is read by itself.
use Rattle.std.specs.Prelude.{ℕ, ◌+◌, Bool, true, false, ◌&&◌, ◌||◌, ◌==◌, List, [], ◌∷◌, ◌++◌, Option, Some, None, length, codes, flat_map, map, nat_lt, if◌then◌else◌}
use Rattle.sarif_model.specs.declared.kinds.Level.{Level}
use Rattle.sarif_model.specs.declared.kinds.Level.TheVariants.{NoLevel, Note, Warning, Error}
use Rattle.sarif_model.specs.declared.kinds.State.{State}
use Rattle.sarif_model.specs.declared.kinds.State.TheVariants.{New, Unchanged, Updated, Absent}
use Rattle.sarif_model.specs.Level.{level_name}
use Rattle.sarif_model.specs.State.{state_name}
use Rattle.sarif_options.specs.declared.policy.Policy.{Policy}
use Rattle.sarif_counts.specs.declared.gate_verdict.Verdict.{Verdict}
use Rattle.sarif_counts.specs.Hits.{verdict_name}
use Rattle.sarif_conditions.specs.declared.facts.ConditionFacts.{ConditionFacts}
use Rattle.sarif_conditions.specs.declared.facts.PolicyFacts.{PolicyFacts}
use Rattle.sarif_shown.specs.declared.noted.Noted.{Noted}
use Rattle.sarif_shown.specs.declared.stopping.Stopping.{Stopping}
use Rattle.sarif_shown.specs.Facts.{Facts}
use Rattle.sarif_shown.specs.Ruled.{gate_hits, gate_stopping, gate_verdict, noted_in, unshown_results}
use Rattle.sarif_page.specs.HtmlAttributes.{Attribute, attributes_in}
use Rattle.sarif_page.specs.HtmlFixed.{conditions_begin, counts_begin, counts_head, page_begin}
use Rattle.sarif_page.specs.HtmlReport.{hits_part, is_on, levels_in, marks_by, others_part, states_in}
use Rattle.sarif_page.specs.HtmlRows.{Tables, tables_of, without_row}
use Rattle.sarif_page.specs.HtmlStyle.{style}
use Rattle.sarif_page.specs.ListAttributes.{section_attributes}

-- the class of a paragraph
abbrev pub of_class : List ℕ → List Attribute
of_class name = (codes "class=", name) ∷ []

-- a sentence about this number, if there is one
abbrev pub mind_attributes : ℕ → List Attribute
mind_attributes n = if n == 0 then [] else of_class (codes "mind")

-- ---- above the results

-- up to the sentence that says what a hit is
abbrev pub top_attributes : Verdict → List Attribute
top_attributes verdict =
    (attributes_in page_begin ++ attributes_in style) ++ of_class (verdict_name verdict)

-- the links to the two lists
abbrev pub links_attributes : Tables → List Attribute
links_attributes tables =
    if length tables.hits == 0 || length tables.others == 0 then []
    else (codes "aria-label=", codes "Results") ∷ ((codes "href=", codes "#hits")
    ∷ ((codes "href=", codes "#others") ∷ []))

-- a number of the counts, marked if it is of hits
abbrev pub number_attributes : Bool → List Attribute
number_attributes true = of_class (codes "on")
number_attributes false = []

abbrev pub count_attributes : Option Policy → State → List Attribute
count_attributes marks state =
    (codes "scope=", codes "row") ∷ ((codes "align=", codes "left")
    ∷ (number_attributes (is_on marks state Error) ++ (number_attributes (is_on marks state Warning)
    ++ (number_attributes (is_on marks state Note) ++ number_attributes (is_on marks state NoLevel)))))

abbrev pub counts_attributes : Option Policy → List Attribute
counts_attributes marks =
    attributes_in counts_begin ++ (attributes_in counts_head
    ++ (count_attributes marks New ++ (count_attributes marks Unchanged
    ++ (count_attributes marks Updated ++ count_attributes marks Absent))))

-- the sentences on what wasn't checked
abbrev pub minds_attributes : Noted → List Attribute
minds_attributes n =
    mind_attributes n.without ++ (mind_attributes n.unused ++ (mind_attributes n.filters
    ++ (mind_attributes n.outside ++ mind_attributes n.unchecked)))

-- the row of a condition
abbrev pub condition_attributes : ConditionFacts → List Attribute
condition_attributes c = (codes "scope=", codes "row") ∷ ((codes "align=", codes "left") ∷ [])

-- the table of conditions, if there is a policy
abbrev pub conditions_attributes : Option PolicyFacts → List Attribute
conditions_attributes None = []
conditions_attributes (Some ruling) =
    attributes_in conditions_begin ++ flat_map condition_attributes ruling.conditions

-- ---- the results

-- the box of a filter, whose `id` is the name of a level or of a state
abbrev pub box_attributes : List ℕ → List Attribute
box_attributes name = (codes "type=", codes "checkbox") ∷ ((codes "id=", name) ∷ [])

abbrev pub boxes_attributes : List (List ℕ) → List Attribute
boxes_attributes names = if nat_lt (length names) 2 then [] else flat_map box_attributes names

abbrev pub filters_attributes : List Level → List State → List Attribute
filters_attributes levels states =
    if nat_lt (length levels) 2 && nat_lt (length states) 2 then []
    else of_class (codes "filters") ++ (boxes_attributes (map level_name levels)
    ++ boxes_attributes (map state_name states))

-- that nothing is reported, or how many results have no row
abbrev pub rest_attributes : ℕ → Tables → List Attribute
rest_attributes unshown tables =
    if tables.all_hits == 0 && tables.all_others == 0
    then (if unshown == 0 then of_class (codes "empty") else [])
    else mind_attributes
    (without_row tables.all_hits tables.hits + without_row tables.all_others tables.others)

abbrev pub results_attributes : Stopping → ℕ → Tables → ℕ → List Attribute
results_attributes stopping max tables unshown =
    filters_attributes (levels_in (tables.hits ++ tables.others)) (states_in (tables.hits ++ tables.others))
    ++ ((section_attributes (hits_part stopping max tables) tables.hits
    ++ section_attributes (others_part tables) tables.others)
    ++ (rest_attributes unshown tables ++ mind_attributes unshown))

-- how the hits are accepted, if there are any
abbrev pub accept_attributes : ℕ → List Attribute
accept_attributes hits = if hits == 0 then [] else of_class (codes "how")

-- ---- the page

abbrev pub page_attributes_by : Facts → Tables → List Attribute
page_attributes_by facts tables =
    top_attributes (gate_verdict facts) ++ (links_attributes tables
    ++ (counts_attributes (marks_by facts.ruling facts.policy)
    ++ ((minds_attributes (noted_in facts) ++ conditions_attributes facts.ruling)
    ++ (results_attributes (gate_stopping facts) facts.policy.max tables (unshown_results facts)
    ++ accept_attributes (gate_hits facts)))))

abbrev pub page_attributes : Facts → List Attribute
page_attributes facts = page_attributes_by facts (tables_of facts.link facts.findings)
