-- The page: the verdict, the counts, and the first reported results.
use Rattle.std.specs.Prelude.{ℕ, ◌+◌, Bool, true, false, ◌&&◌, ◌||◌, ◌==◌, List, [], ◌∷◌, ◌++◌, Option, Some, None, length, codes, flat_map, map, nat_lt, if◌then◌else◌}
use Rattle.std.specs.List.{list_any}
use Rattle.std.specs.Fmt.{decimal}
use Rattle.sarif_model.specs.declared.kinds.Level.{Level}
use Rattle.sarif_model.specs.declared.kinds.Level.TheVariants.{NoLevel, Note, Warning, Error}
use Rattle.sarif_model.specs.declared.kinds.State.{State}
use Rattle.sarif_model.specs.declared.kinds.State.TheVariants.{New, Unchanged, Updated, Absent}
use Rattle.sarif_model.specs.Level.{level_name}
use Rattle.sarif_model.specs.State.{state_name}
use Rattle.sarif_options.specs.declared.policy.Policy.{Policy}
use Rattle.sarif_counts.specs.declared.gate_verdict.Verdict.{Verdict}
use Rattle.sarif_counts.specs.Counts.{same_state}
use Rattle.sarif_options.specs.Policy.{are_hits}
use Rattle.sarif_counts.specs.Hits.{Count, verdict_name}
use Rattle.sarif_counts.specs.Tally.{same_level}
use Rattle.sarif_conditions.specs.declared.facts.ConditionFacts.{ConditionFacts}
use Rattle.sarif_conditions.specs.declared.facts.PolicyFacts.{PolicyFacts}
use Rattle.sarif_shown.specs.ConditionRow.{condition_cells}
use Rattle.sarif_shown.specs.CountRow.{numbers_of}
use Rattle.sarif_shown.specs.declared.count_row.CountRow.{CountRow}
use Rattle.sarif_findings.specs.declared.finding.Finding.{Finding}
use Rattle.sarif_shown.specs.declared.escaping.Escaping.TheVariants.{Page}
use Rattle.sarif_shown.specs.declared.noted.Noted.{Noted}
use Rattle.sarif_shown.specs.declared.stopping.Stopping.{Stopping}
use Rattle.sarif_shown.specs.Escaped.{escaped}
use Rattle.sarif_shown.specs.Facts.{Facts}
use Rattle.sarif_shown.specs.Ruled.{gate_ending, gate_hits, gate_stopping, gate_verdict, noted_in, unshown_results}
use Rattle.sarif_scope.specs.declared.facts.ChangeFacts.{ChangeFacts}
use Rattle.sarif_page.specs.HtmlFixed.{page_begin, title_end, body_begin, conditions_begin, counts_begin, counts_head, counts_end, filters_begin, filters_end, header_end, nothing_reported, page_end}
use Rattle.sarif_page.specs.HtmlGroups.{Part, most_open, section_if}
use Rattle.sarif_page.specs.HtmlRows.{Tables, groups_of, tables_of, without_row}
use Rattle.sarif_page.specs.HtmlStyle.{style, tables_style}
use Rattle.sarif_page.specs.HtmlWords.{reason_by, hits_heading, others_text}
use Rattle.sarif_shown.specs.Sentences.{accept_text, entries_text, filters_text, gate_text, hits_text, more_text, outside_text, runs_text, unchecked_text, unshown_text}

-- ---- the verdict

-- the style of the table of conditions, if there is one
abbrev pub style_by : Option PolicyFacts → List ℕ
style_by None = []
style_by (Some ruling) = tables_style

unfoldable pub page_head : Option PolicyFacts → Verdict → List ℕ → List ℕ
page_head ruling verdict end =
    page_begin ++ (gate_text verdict end ++ (title_end ++ (style ++ (style_by ruling ++ body_begin))))

unfoldable pub heading : Verdict → List ℕ → List ℕ
heading verdict end =
    codes "<h1 class=\"" ++ (verdict_name verdict ++ (codes "\">Gate: " ++ (verdict_name verdict
    ++ (codes "<span>" ++ (end ++ codes "</span></h1>\n")))))

unfoldable pub reason_line : Option PolicyFacts → Policy → Option ChangeFacts → List ℕ
reason_line ruling policy change =
    codes "<p>" ++ (reason_by ruling policy change ++ codes "</p>\n")

-- links to the two lists, if there are both
unfoldable pub links_to : ℕ → ℕ → List ℕ
links_to hits others =
    codes "<nav aria-label=\"Results\"><a href=\"#hits\">" ++ (hits_text hits
    ++ (codes "</a> <a href=\"#others\">" ++ (others_text others ++ codes "</a></nav>\n")))

unfoldable pub links : Tables → List ℕ
links tables =
    if length tables.hits == 0 || length tables.others == 0 then []
    else links_to tables.all_hits tables.all_others

-- ---- the counts

-- a number of hits, if there are any
abbrev pub strong : ℕ → List ℕ
strong n = if n == 0 then codes "0" else codes "<b>" ++ (decimal n ++ codes "</b>")

-- a number; a number of hits is marked
abbrev pub number_cell : Bool → ℕ → List ℕ
number_cell true n = codes "<td class=\"on\">" ++ (strong n ++ codes "</td>")
number_cell false n = codes "<td>" ++ (decimal n ++ codes "</td>")

-- whether the results of this state and level are marked as hits: none are without options that say so
abbrev pub is_on : Option Policy → State → Level → Bool
is_on None state level = false
is_on (Some policy) state level = are_hits policy state level

unfoldable pub level_cells : Option Policy → State → CountRow → List ℕ
level_cells marks state row =
    number_cell (is_on marks state Error) row.error
    ++ (number_cell (is_on marks state Warning) row.warning
    ++ (number_cell (is_on marks state Note) row.note
    ++ number_cell (is_on marks state NoLevel) row.none))

-- a state's active results by level, and its suppressed ones
abbrev pub row_of : Option Policy → State → CountRow → List ℕ
row_of marks state row =
    codes "<tr><th scope=\"row\" align=\"left\">" ++ (state_name state
    ++ (codes "</th>" ++ (level_cells marks state row
    ++ (number_cell false row.suppressed ++ codes "</tr>\n"))))

unfoldable pub count_row : Option Policy → State → (Level → Bool → ℕ) → List ℕ
count_row marks state numbers = row_of marks state (numbers_of numbers)

-- the end of the caption, if cells are marked
abbrev pub caption_end : Option Policy → List ℕ
caption_end None = []
caption_end (Some policy) = codes "; hits in bold"

unfoldable pub counts_table : Count → Option Policy → List ℕ
counts_table count marks =
    counts_begin ++ (caption_end marks ++ (counts_head
    ++ (count_row marks New (count New)
    ++ (count_row marks Unchanged (count Unchanged)
    ++ (count_row marks Updated (count Updated)
    ++ (count_row marks Absent (count Absent) ++ counts_end))))))

-- the options by which cells are marked: with a policy there are none, since a condition asks more than a state and a level
abbrev pub marks_by : Option PolicyFacts → Policy → Option Policy
marks_by None policy = Some policy
marks_by (Some ruling) policy = None

-- a sentence that the reader has to know
unfoldable pub mind : List ℕ → List ℕ
mind sentence = codes "<p class=\"mind\">" ++ (sentence ++ codes "</p>\n")

-- a sentence on this number, if it isn't 0
abbrev pub mind_if : ℕ → List ℕ → List ℕ
mind_if n sentence = if n == 0 then [] else mind sentence

-- what wasn't checked
unfoldable pub minds : Noted → List ℕ
minds n =
    mind_if n.without (runs_text n.without) ++ (mind_if n.unused (entries_text n.unused)
    ++ (mind_if n.filters (filters_text n.filters) ++ (mind_if n.outside (outside_text n.outside)
    ++ mind_if n.unchecked (unchecked_text n.unchecked))))

-- ---- the conditions

unfoldable pub condition_row : ConditionFacts → List ℕ
condition_row c =
    codes "<tr><th scope=\"row\" align=\"left\">" ++ (escaped Page c.name ++ (codes "</th>"
    ++ (condition_cells (codes "<td>") (codes "</td>") c ++ codes "</tr>\n")))

-- a row for each condition, if there is a policy
unfoldable pub conditions_table : Option PolicyFacts → List ℕ
conditions_table None = []
conditions_table (Some ruling) =
    conditions_begin ++ (flat_map condition_row ruling.conditions ++ counts_end)

-- ---- the filters

abbrev pub level_if : List Finding → Level → List Level
level_if rows level = if list_any (λ f. same_level level f.level) rows then level ∷ [] else []

abbrev pub state_if : List Finding → State → List State
state_if rows state = if list_any (λ f. same_state state f.state) rows then state ∷ [] else []

-- the levels of these rows
abbrev pub levels_in : List Finding → List Level
levels_in rows =
    level_if rows Error ++ (level_if rows Warning ++ (level_if rows Note ++ level_if rows NoLevel))

-- the states of these rows
abbrev pub states_in : List Finding → List State
states_in rows =
    state_if rows New ++ (state_if rows Unchanged ++ (state_if rows Updated ++ state_if rows Absent))

abbrev pub box : List ℕ → List ℕ
box name =
    codes "<label><input type=\"checkbox\" id=\"" ++ (name
    ++ (codes "\" checked>" ++ (name ++ codes "</label>")))

abbrev pub group_of : List ℕ → List ℕ → List ℕ
group_of legend inner =
    codes "<fieldset><legend>" ++ (legend ++ (codes "</legend>" ++ (inner ++ codes "</fieldset>\n")))

-- a box for each name, if there are two or more
unfoldable pub boxes : List ℕ → List (List ℕ) → List ℕ
boxes legend names = if nat_lt (length names) 2 then [] else group_of legend (flat_map box names)

unfoldable pub filters_by : List Level → List State → List ℕ
filters_by levels states =
    if nat_lt (length levels) 2 && nat_lt (length states) 2 then []
    else filters_begin ++ (boxes (codes "Level") (map level_name levels)
    ++ (boxes (codes "State") (map state_name states) ++ filters_end))

unfoldable pub filters_of : List Finding → List ℕ
filters_of rows = filters_by (levels_in rows) (states_in rows)

-- ---- the lists

-- how many results have no row, and how many of these are hits
unfoldable pub more_line : ℕ → ℕ → List ℕ
more_line more hits = if more == 0 then [] else mind (more_text more hits)

-- that nothing is reported, if that is so and not only nothing is shown
abbrev pub nothing_line : ℕ → List ℕ
nothing_line unshown = if unshown == 0 then nothing_reported else []

unfoldable pub rest_line : ℕ → Tables → List ℕ
rest_line unshown tables =
    if tables.all_hits == 0 && tables.all_others == 0 then nothing_line unshown
    else more_line (without_row tables.all_hits tables.hits + without_row tables.all_others tables.others)
    (without_row tables.all_hits tables.hits)

-- the room for open groups in the others: there is some if they are the first list
abbrev pub others_room : List Finding → ℕ
others_room hits = if length hits == 0 then most_open else 0

-- the list of hits
abbrev pub hits_part : Stopping → ℕ → Tables → Part
hits_part stopping max tables = record {
  name = codes "hits";
  heading = hits_heading stopping tables.marked tables.all_hits max;
  link = tables.link;
  room = most_open;
  number = 1;
  rules = tables.rules;
  all_rules = tables.all_rules;
}

-- the list of the others, which has an index only if it is the first
abbrev pub others_part : Tables → Part
others_part tables = record {
  name = codes "others";
  heading = others_text tables.all_others;
  link = tables.link;
  room = others_room tables.hits;
  number = length (groups_of tables.hits) + 1;
  rules = if length tables.hits == 0 then tables.rules else [];
  all_rules = tables.all_rules;
}

unfoldable pub sections : Stopping → ℕ → Tables → List ℕ
sections stopping max tables =
    section_if (hits_part stopping max tables) tables.hits ++ section_if (others_part tables) tables.others

-- how many reported results are not shown, if there are any
unfoldable pub unshown_line : ℕ → List ℕ
unshown_line unshown = if unshown == 0 then [] else mind (unshown_text unshown)

unfoldable pub results_of : Stopping → ℕ → Tables → ℕ → List ℕ
results_of stopping max tables unshown =
    filters_of (tables.hits ++ tables.others) ++ (sections stopping max tables
    ++ (rest_line unshown tables ++ unshown_line unshown))

-- a sentence that says how something is done
unfoldable pub how : List ℕ → List ℕ
how sentence = codes "<p class=\"how\">" ++ (sentence ++ codes "</p>\n")

-- how to accept the hits, if there are any
abbrev pub accept_line : ℕ → List ℕ
accept_line hits =
    if hits == 0 then [] else how (accept_text (codes "<code>") (codes "</code>") hits)

-- ---- the page

unfoldable pub top_of : Facts → List ℕ
top_of facts =
    page_head facts.ruling (gate_verdict facts) (gate_ending facts)
    ++ (heading (gate_verdict facts) (gate_ending facts)
    ++ reason_line facts.ruling facts.policy facts.change)

-- below the counts
unfoldable pub below_counts : Facts → List ℕ
below_counts facts = minds (noted_in facts) ++ (conditions_table facts.ruling ++ header_end)

unfoldable pub page_of : Facts → Tables → List ℕ
page_of facts tables =
    top_of facts ++ (links tables
    ++ (counts_table facts.count (marks_by facts.ruling facts.policy) ++ (below_counts facts
    ++ (results_of (gate_stopping facts) facts.policy.max tables (unshown_results facts)
    ++ (accept_line (gate_hits facts) ++ page_end)))))

unfoldable pub html_of : Facts → List ℕ
html_of facts = page_of facts (tables_of facts.link facts.findings)
