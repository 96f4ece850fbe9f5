-- A reader of the page finds the attributes that are stated for it.
use Rattle.std.proofs.Common.{◌≡◌, ◌+◌, ◌==◌, ◌++◌, ℕ, Bool, true, false, ◌&&◌, ◌||◌, List, [], ◌∷◌, Option, Some, None, codes, flat_map, length, map, nat_lt, append-nil, if◌then◌else◌, refl, sym, ap, ◌∙◌}
use Rattle.sarif_model.specs.declared.kinds.Level.{Level}
use Rattle.sarif_model.specs.declared.kinds.Level.TheVariants.{NoLevel, Note, Warning, Error}
use Rattle.sarif_model.specs.declared.kinds.State.{State}
use Rattle.sarif_model.specs.declared.kinds.State.TheVariants.{New, Unchanged, Updated, Absent}
use Rattle.sarif_model.specs.Level.{level_name}
use Rattle.sarif_model.specs.State.{state_name}
use Rattle.sarif_options.specs.declared.policy.Policy.{Policy}
use Rattle.sarif_conditions.specs.Facts.{failed_told, verdict_if}
use Rattle.sarif_conditions.specs.declared.facts.ConditionFacts.{ConditionFacts}
use Rattle.sarif_conditions.specs.declared.facts.PolicyFacts.{PolicyFacts}
use Rattle.sarif_counts.specs.declared.gate_verdict.Verdict.{Verdict}
use Rattle.sarif_counts.specs.declared.gate_verdict.Verdict.TheVariants.{Pass, Fail}
use Rattle.sarif_counts.specs.Hits.{Count, verdict_name}
use Rattle.sarif_shown.specs.ConditionRow.{cell, condition_cells, outside_number}
use Rattle.sarif_shown.specs.CountRow.{numbers_of}
use Rattle.sarif_shown.specs.declared.count_row.CountRow.{CountRow}
use Rattle.sarif_shown.specs.declared.noted.Noted.{Noted}
use Rattle.sarif_shown.specs.declared.stopping.Stopping.{Stopping}
use Rattle.sarif_shown.specs.declared.stopping.Stopping.TheVariants.{EachHit, NoHit, MarkedHit}
use Rattle.sarif_change.specs.declared.spots.Scope.{Scope}
use Rattle.sarif_change.specs.declared.spots.Scope.TheVariants.{Lines, Files}
use Rattle.sarif_scope.specs.Told.{hits_told}
use Rattle.sarif_scope.specs.declared.facts.ChangeFacts.{ChangeFacts}
use Rattle.sarif_shown.specs.Facts.{Facts}
use Rattle.sarif_shown.specs.Ruled.{end_ruled, gate_ending, gate_hits, gate_stopping, gate_verdict, noted_in, unshown_results}
use Rattle.sarif_shown.specs.Sentences.{accept_text, conditions_end, entries_text, filters_text, gate_end, gate_text, hits_text, more_text, outside_text, runs_text, unchecked_text, unshown_text}
use Rattle.sarif_page.specs.HtmlAttributes.{attributes_in}
use Rattle.sarif_page.specs.HtmlFixed.{page_begin, title_end, body_begin, conditions_begin, counts_begin, counts_head, counts_end, filters_begin, filters_end, header_end, nothing_reported, page_end}
use Rattle.sarif_page.specs.HtmlReport.{page_head, heading, reason_line, links_to, links, strong, number_cell, level_cells, count_row, counts_table, caption_end, is_on, marks_by, mind, minds, style_by, condition_row, conditions_table, levels_in, states_in, box, boxes, filters_by, filters_of, more_line, rest_line, hits_part, others_part, sections, unshown_line, results_of, how, accept_line, top_of, below_counts, page_of, html_of}
use Rattle.sarif_page.specs.HtmlRows.{Tables, tables_of, without_row}
use Rattle.sarif_page.specs.HtmlStyle.{style, tables_style, style_top, style_groups, style_rows, style_filters, style_narrow, style_print}
use Rattle.sarif_page.specs.HtmlWords.{all_stop, listed_states, joint, joined, levels_from, in_scope, in_change, hit_is, reason, reason_by, hits_heading, others_text, some_stop}
use Rattle.sarif_page.specs.PageAttributes.{of_class, mind_attributes, minds_attributes, top_attributes, links_attributes, number_attributes, count_attributes, counts_attributes, condition_attributes, conditions_attributes, box_attributes, boxes_attributes, filters_attributes, rest_attributes, results_attributes, accept_attributes, page_attributes_by, page_attributes}
use Rattle.sarif_shown.specs.declared.escaping.Escaping.TheVariants.{Page}
use Rattle.sarif_shown.specs.Escaped.{escaped}
use Rattle.sarif_page.proofs.TagsCounted.{escaped_none}
use Rattle.sarif_page.proofs.AttributesRead.{Reads, then_reads, reads_to, outside}
use Rattle.sarif_page.proofs.ListAttributesRead.{Silent, quiet, none, both, either, number_quiet, counted_quiet, level_named, state_named, after_silent, then_silent, either_reads, attribute, attribute_after, fixed_reads, section_reads}

-- ---- sentences

hits_quiet : (n : ℕ) → Silent (hits_text n)
hits_quiet n = counted_quiet n (quiet (codes " hit") refl) (quiet (codes " hits") refl)

others_quiet : (n : ℕ) → Silent (others_text n)
others_quiet n = counted_quiet n (quiet (codes " other result") refl) (quiet (codes " other results") refl)

verdict_quiet : (verdict : Verdict) → Silent (verdict_name verdict)
verdict_quiet Pass = quiet (codes "pass") refl
verdict_quiet Fail = quiet (codes "fail") refl

end_quiet : (hits max : ℕ) → Silent (gate_end hits max)
end_quiet hits max =
    both (quiet (codes ", ") refl) (both (hits_quiet hits) (both (quiet (codes ", ") refl) (both (number_quiet max) (quiet (codes " allowed") refl))))

conditions_quiet : (hits failed all : ℕ) → Silent (conditions_end hits failed all)
conditions_quiet hits failed all =
    both (quiet (codes ", ") refl) (both (hits_quiet hits) (both (quiet (codes ", ") refl) (both (number_quiet failed) (both (quiet (codes " of ") refl)
    (counted_quiet all (quiet (codes " condition failed") refl) (quiet (codes " conditions failed") refl))))))

ending_by : (ruling : Option PolicyFacts) (hits max : ℕ) → Silent (end_ruled ruling hits max)
ending_by None hits max = end_quiet hits max
ending_by (Some ruling) hits max = conditions_quiet ruling.hits (failed_told ruling) (length ruling.conditions)

ending_quiet : (facts : Facts) → Silent (gate_ending facts)
ending_quiet facts = ending_by facts.ruling (hits_told facts.change facts.count facts.policy) facts.policy.max

gate_quiet : (verdict : Verdict) {end : List ℕ} → Silent end → Silent (gate_text verdict end)
gate_quiet verdict said = both (quiet (codes "Gate: ") refl) (both (verdict_quiet verdict) said)

joint_quiet : (states : List State) → Silent (joint states)
joint_quiet [] = none
joint_quiet (state ∷ []) = quiet (codes " or ") refl
joint_quiet (state ∷ (next ∷ states)) = quiet (codes ", ") refl

joined_quiet : (states : List State) → Silent (joined states)
joined_quiet [] = none
joined_quiet (state ∷ states) = both (state_named state) (both (joint_quiet states) (joined_quiet states))

from_quiet : (level : Level) → Silent (levels_from level)
from_quiet NoLevel = quiet (codes "any level") refl
from_quiet Note = quiet (codes "level note, warning or error") refl
from_quiet Warning = quiet (codes "level warning or error") refl
from_quiet Error = quiet (codes "level error") refl

scope_quiet : (scope : Scope) → Silent (in_scope scope)
scope_quiet Lines = quiet (codes ", on a line of the change") refl
scope_quiet Files = quiet (codes ", in a file of the change") refl

change_quiet : (change : Option ChangeFacts) → Silent (in_change change)
change_quiet None = none
change_quiet (Some facts) = scope_quiet facts.scope

is_quiet : (states : List State) (least : Level) (change : Option ChangeFacts) → Silent (hit_is states least change)
is_quiet [] least change = quiet (codes "No state counts, so no result is a hit.") refl
is_quiet (state ∷ states) least change =
    both (quiet (codes "A hit is a result that is ") refl) (both (joined_quiet (state ∷ states))
    (both (quiet (codes ", of ") refl) (both (from_quiet least) (both (change_quiet change) (quiet (codes ", and not suppressed.") refl)))))

reason_quiet : (policy : Policy) (change : Option ChangeFacts) → Silent (reason policy change)
unfolding reason
reason_quiet policy change = is_quiet (listed_states policy.states) policy.fail_on change

by_quiet : (ruling : Option PolicyFacts) (policy : Policy) (change : Option ChangeFacts) → Silent (reason_by ruling policy change)
by_quiet None policy change = reason_quiet policy change
by_quiet (Some ruling) policy change = quiet (codes "A hit is a result that meets a condition of the policy and is not suppressed.") refl

all_quiet : (hits : ℕ) → Silent (all_stop hits)
all_quiet hits = counted_quiet hits (quiet (codes " hit stops this change") refl) (quiet (codes " hits stop this change") refl)

some_quiet : (marked hits : ℕ) → Silent (some_stop marked hits)
some_quiet marked hits =
    both (hits_quiet hits) (both (quiet (codes ", ") refl)
    (counted_quiet marked (quiet (codes " of them stops this change") refl) (quiet (codes " of them stop this change") refl)))

heading_quiet : (stopping : Stopping) (marked hits max : ℕ) → Silent (hits_heading stopping marked hits max)
heading_quiet EachHit marked hits max = all_quiet hits
heading_quiet NoHit marked hits max =
    both (hits_quiet hits) (both (quiet (codes ", within the ") refl) (both (number_quiet max) (quiet (codes " allowed") refl)))
heading_quiet MarkedHit marked hits max =
    either (marked == 0) (both (hits_quiet hits) (quiet (codes ", within the limits") refl))
    (either (marked == hits) (all_quiet hits) (some_quiet marked hits))

more_quiet : (n hits : ℕ) → Silent (more_text n hits)
more_quiet n hits =
    either (hits == n)
    (counted_quiet n (quiet (codes " more hit is in the merged log.") refl) (quiet (codes " more hits are in the merged log.") refl))
    (either (hits == 0)
    (counted_quiet n (quiet (codes " more result is in the merged log.") refl) (quiet (codes " more results are in the merged log.") refl))
    (both (number_quiet n) (both (quiet (codes " more results are in the merged log, ") refl)
    (counted_quiet hits (quiet (codes " of them a hit.") refl) (quiet (codes " of them hits.") refl)))))

runs_quiet : (n : ℕ) → Silent (runs_text n)
runs_quiet n =
    counted_quiet n (quiet (codes " run without results: nothing is known of what it looked for.") refl)
    (quiet (codes " runs without results: nothing is known of what they looked for.") refl)

entries_quiet : (n : ℕ) → Silent (entries_text n)
entries_quiet n =
    counted_quiet n (quiet (codes " suppression entry matches nothing.") refl) (quiet (codes " suppression entries match nothing.") refl)

outside_quiet : (n : ℕ) → Silent (outside_text n)
outside_quiet n =
    counted_quiet n (quiet (codes " result outside the change would be a hit.") refl)
    (quiet (codes " results outside the change would be hits.") refl)

filters_quiet : (n : ℕ) → Silent (filters_text n)
filters_quiet n =
    counted_quiet n (quiet (codes " filter of the policy matches nothing.") refl) (quiet (codes " filters of the policy match nothing.") refl)

unchecked_quiet : (n : ℕ) → Silent (unchecked_text n)
unchecked_quiet n =
    both (quiet (codes "No condition checks ") refl)
    (counted_quiet n (quiet (codes " active result.") refl) (quiet (codes " active results.") refl))

unshown_quiet : (n : ℕ) → Silent (unshown_text n)
unshown_quiet n =
    counted_quiet n (quiet (codes " other result isn't shown.") refl) (quiet (codes " other results aren't shown.") refl)

accept_quiet : (before after : List ℕ) (hits : ℕ) → Silent before → Silent after → Silent (accept_text before after hits)
accept_quiet before after hits b a =
    both (quiet (codes "To accept ") refl) (both (either (hits == 1) (quiet (codes "this hit") refl) (quiet (codes "these hits") refl))
    (both (quiet (codes ", run the same merge with ") refl)
    (both b (both (quiet (codes "--accept --reason TEXT --suppress-out FILE") refl) (both a
    (both (quiet (codes ", review FILE, and pass ") refl)
    (both b (both (quiet (codes "--suppress FILE") refl) (both a
    (both (quiet (codes " from then on; ") refl)
    (both b (both (quiet (codes "--at PLACE") refl) (both a (quiet (codes " accepts one alone.") refl))))))))))))))

-- ---- above the results

page_begin_reads : Reads page_begin (attributes_in page_begin)
unfolding page_begin
page_begin_reads = fixed_reads page_begin refl refl

style_reads : Reads style (attributes_in style)
unfolding style style_top style_groups style_rows style_filters style_narrow style_print
style_reads = fixed_reads style refl refl

title_end_quiet : Silent title_end
unfolding title_end
title_end_quiet = quiet title_end refl

body_begin_quiet : Silent body_begin
unfolding body_begin
body_begin_quiet = quiet body_begin refl

tables_style_quiet : Silent tables_style
unfolding tables_style
tables_style_quiet = quiet tables_style refl

style_quiet : (ruling : Option PolicyFacts) → Silent (style_by ruling)
style_quiet None = none
style_quiet (Some ruling) = tables_style_quiet

head_reads : (ruling : Option PolicyFacts) (verdict : Verdict) {end : List ℕ} → Silent end
    → Reads (page_head ruling verdict end) (attributes_in page_begin ++ attributes_in style)
unfolding page_head
head_reads ruling verdict said =
    then_reads page_begin_reads (after_silent (gate_quiet verdict said) (after_silent title_end_quiet
    (then_silent style_reads (both (style_quiet ruling) body_begin_quiet))))

verdict_reads : (verdict : Verdict) {end : List ℕ} → Silent end → Reads (heading verdict end) (of_class (verdict_name verdict))
unfolding heading
verdict_reads verdict said =
    attribute (codes "<h1 class=\"") (codes "\">Gate: ") (codes "class=") [] (verdict_name verdict) []
    (λ word. record { moves = λ rest. refl }) (λ word whole. record { moves = λ rest. refl }) (verdict_quiet verdict)
    (after_silent (verdict_quiet verdict) (after_silent (quiet (codes "<span>") refl)
    (after_silent said (outside (codes "</span></h1>\n") refl))))

line_quiet : (ruling : Option PolicyFacts) (policy : Policy) (change : Option ChangeFacts) → Silent (reason_line ruling policy change)
unfolding reason_line
line_quiet ruling policy change = both (quiet (codes "<p>") refl) (both (by_quiet ruling policy change) (quiet (codes "</p>\n") refl))

top_reads : (facts : Facts) → Reads (top_of facts) (top_attributes (gate_verdict facts))
unfolding top_of
top_reads facts =
    then_reads (head_reads facts.ruling (gate_verdict facts) (ending_quiet facts))
    (then_silent (verdict_reads (gate_verdict facts) (ending_quiet facts)) (line_quiet facts.ruling facts.policy facts.change))

links_reads : (tables : Tables) → Reads (links tables) (links_attributes tables)
unfolding links links_to
links_reads tables =
    either_reads (length tables.hits == 0 || length tables.others == 0) (outside [] refl)
    (then_reads first (after_silent (hits_quiet tables.all_hits)
    (then_reads second (after_silent (others_quiet tables.all_others) (outside (codes "</a></nav>\n") refl)))))
  where
    first : Reads (codes "<nav aria-label=\"Results\"><a href=\"#hits\">") ((codes "aria-label=", codes "Results") ∷ ((codes "href=", codes "#hits") ∷ []))
    first = reads_to (codes ">") (λ word. record { moves = λ rest. refl })

    second : Reads (codes "</a> <a href=\"#others\">") ((codes "href=", codes "#others") ∷ [])
    second = reads_to (codes ">") (λ word. record { moves = λ rest. refl })

strong_quiet : (n : ℕ) → Silent (strong n)
strong_quiet n =
    either (n == 0) (quiet (codes "0") refl) (both (quiet (codes "<b>") refl) (both (number_quiet n) (quiet (codes "</b>") refl)))

cell_reads : (on : Bool) (n : ℕ) → Reads (number_cell on n) (number_attributes on)
cell_reads true n = then_silent on_class (both (strong_quiet n) (quiet (codes "</td>") refl)) where
  on_class : Reads (codes "<td class=\"on\">") (of_class (codes "on"))
  on_class = reads_to (codes ">") (λ word. record { moves = λ rest. refl })
cell_reads false n =
    after_silent (quiet (codes "<td>") refl) (after_silent (number_quiet n) (outside (codes "</td>") refl))

level_cells_reads : (marks : Option Policy) (state : State) (row : CountRow)
    → Reads (level_cells marks state row)
    (number_attributes (is_on marks state Error) ++ (number_attributes (is_on marks state Warning)
    ++ (number_attributes (is_on marks state Note) ++ number_attributes (is_on marks state NoLevel))))
unfolding level_cells
level_cells_reads marks state row =
    then_reads (cell_reads (is_on marks state Error) row.error) (then_reads (cell_reads (is_on marks state Warning) row.warning)
    (then_reads (cell_reads (is_on marks state Note) row.note) (cell_reads (is_on marks state NoLevel) row.none)))

row_begin : Reads (codes "<tr><th scope=\"row\" align=\"left\">") ((codes "scope=", codes "row") ∷ ((codes "align=", codes "left") ∷ []))
row_begin = reads_to (codes ">") (λ word. record { moves = λ rest. refl })

count_reads : (marks : Option Policy) (state : State) (numbers : Level → Bool → ℕ) → Reads (count_row marks state numbers) (count_attributes marks state)
unfolding count_row
count_reads marks state numbers =
    let row = numbers_of numbers in
    then_reads row_begin (after_silent (state_named state) (after_silent (quiet (codes "</th>") refl)
    (then_silent (level_cells_reads marks state row)
    (both (both (quiet (codes "<td>") refl) (both (number_quiet row.suppressed) (quiet (codes "</td>") refl))) (quiet (codes "</tr>\n") refl)))))

counts_begin_reads : Reads counts_begin (attributes_in counts_begin)
unfolding counts_begin
counts_begin_reads = fixed_reads counts_begin refl refl

counts_end_quiet : Silent counts_end
unfolding counts_end
counts_end_quiet = quiet counts_end refl

counts_head_reads : Reads counts_head (attributes_in counts_head)
unfolding counts_head
counts_head_reads = fixed_reads counts_head refl refl

caption_quiet : (marks : Option Policy) → Silent (caption_end marks)
caption_quiet None = none
caption_quiet (Some policy) = quiet (codes "; hits in bold") refl

counts_reads : (count : Count) (marks : Option Policy) → Reads (counts_table count marks) (counts_attributes marks)
unfolding counts_table
counts_reads count marks =
    then_reads counts_begin_reads (after_silent (caption_quiet marks) (then_reads counts_head_reads
    (then_reads (count_reads marks New (count New)) (then_reads (count_reads marks Unchanged (count Unchanged))
    (then_reads (count_reads marks Updated (count Updated)) (then_silent (count_reads marks Absent (count Absent)) counts_end_quiet))))))

-- ---- paragraphs

mind_reads : {sentence : List ℕ} → Silent sentence → Reads (mind sentence) (of_class (codes "mind"))
unfolding mind
mind_reads said = then_silent begins (both said (quiet (codes "</p>\n") refl)) where
  begins : Reads (codes "<p class=\"mind\">") (of_class (codes "mind"))
  begins = reads_to (codes ">") (λ word. record { moves = λ rest. refl })

how_reads : {sentence : List ℕ} → Silent sentence → Reads (how sentence) (of_class (codes "how"))
unfolding how
how_reads said = then_silent begins (both said (quiet (codes "</p>\n") refl)) where
  begins : Reads (codes "<p class=\"how\">") (of_class (codes "how"))
  begins = reads_to (codes ">") (λ word. record { moves = λ rest. refl })

-- a sentence about a number, if it isn't 0
said_if : (n : ℕ) {sentence : List ℕ} → Silent sentence → Reads (if n == 0 then [] else mind sentence) (mind_attributes n)
said_if n said = either_reads (n == 0) (outside [] refl) (mind_reads said)

minds_reads : (n : Noted) → Reads (minds n) (minds_attributes n)
unfolding minds
minds_reads n =
    then_reads (said_if n.without (runs_quiet n.without)) (then_reads (said_if n.unused (entries_quiet n.unused))
    (then_reads (said_if n.filters (filters_quiet n.filters)) (then_reads (said_if n.outside (outside_quiet n.outside))
    (said_if n.unchecked (unchecked_quiet n.unchecked)))))

-- ---- the conditions

conditions_begin_reads : Reads conditions_begin (attributes_in conditions_begin)
unfolding conditions_begin
conditions_begin_reads = fixed_reads conditions_begin refl refl

cell_quiet : {text : List ℕ} → Silent text → Silent (cell (codes "<td>") (codes "</td>") text)
cell_quiet said = both (quiet (codes "<td>") refl) (both said (quiet (codes "</td>") refl))

number_of : (o : Option ℕ) → Silent (outside_number o)
number_of None = none
number_of (Some n) = number_quiet n

cells_quiet : (c : ConditionFacts) → Silent (condition_cells (codes "<td>") (codes "</td>") c)
cells_quiet c =
    both (cell_quiet (verdict_quiet (verdict_if c.fails))) (both (cell_quiet (number_quiet c.hits))
    (both (cell_quiet (number_quiet c.limit)) (cell_quiet (number_of c.outside))))

condition_reads : (c : ConditionFacts) → Reads (condition_row c) (condition_attributes c)
unfolding condition_row
condition_reads c =
    then_silent row_begin (both (quiet (escaped Page c.name) (escaped_none c.name).quoted) (both (quiet (codes "</th>") refl) (both (cells_quiet c) (quiet (codes "</tr>\n") refl))))

each_condition : (cs : List ConditionFacts) → Reads (flat_map condition_row cs) (flat_map condition_attributes cs)
each_condition [] = outside [] refl
each_condition (c ∷ cs) = then_reads (condition_reads c) (each_condition cs)

conditions_reads : (ruling : Option PolicyFacts) → Reads (conditions_table ruling) (conditions_attributes ruling)
unfolding conditions_table
conditions_reads None = outside [] refl
conditions_reads (Some ruling) = then_reads conditions_begin_reads (then_silent (each_condition ruling.conditions) counts_end_quiet)

unshown_reads : (n : ℕ) → Reads (unshown_line n) (mind_attributes n)
unfolding unshown_line
unshown_reads n = said_if n (unshown_quiet n)

accept_reads : (hits : ℕ) → Reads (accept_line hits) (accept_attributes hits)
accept_reads hits =
    either_reads (hits == 0) (outside [] refl)
    (how_reads (accept_quiet (codes "<code>") (codes "</code>") hits (quiet (codes "<code>") refl) (quiet (codes "</code>") refl)))

-- ---- the filters

box_reads : (name : List ℕ) → Silent name → Reads (box name) (box_attributes name)
box_reads name named =
    attribute_after ((codes "type=", codes "checkbox") ∷ []) (codes "<label><input type=\"checkbox\" id=\"") (codes "\" checked>") (codes "id=") [] name (codes "checked>")
    (λ word. record { moves = λ rest. refl }) (λ word whole. record { moves = λ rest. refl }) named
    (after_silent named (outside (codes "</label>") refl))

each_box : {A : Type 0} (name : A → List ℕ) (named : (x : A) → Silent (name x)) (xs : List A)
    → Reads (flat_map box (map name xs)) (flat_map box_attributes (map name xs))
each_box name named [] = outside [] refl
each_box name named (x ∷ xs) = then_reads (box_reads (name x) (named x)) (each_box name named xs)

boxes_reads : (legend : List ℕ) (names : List (List ℕ)) → Silent legend → Reads (flat_map box names) (flat_map box_attributes names)
    → Reads (boxes legend names) (boxes_attributes names)
unfolding boxes
boxes_reads legend names said reads =
    either_reads (nat_lt (length names) 2) (outside [] refl)
    (after_silent (quiet (codes "<fieldset><legend>") refl) (after_silent said (after_silent (quiet (codes "</legend>") refl)
    (then_silent reads (quiet (codes "</fieldset>\n") refl)))))

filters_begin_reads : Reads filters_begin (of_class (codes "filters"))
unfolding filters_begin
filters_begin_reads = reads_to (codes "hidden>\n") (λ word. record { moves = λ rest. refl })

filters_end_quiet : Silent filters_end
unfolding filters_end
filters_end_quiet = quiet filters_end refl

filters_reads : (levels : List Level) (states : List State) → Reads (filters_by levels states) (filters_attributes levels states)
unfolding filters_by
filters_reads levels states =
    either_reads (nat_lt (length levels) 2 && nat_lt (length states) 2) (outside [] refl)
    (then_reads filters_begin_reads
    (then_reads (boxes_reads (codes "Level") (map level_name levels) (quiet (codes "Level") refl) (each_box level_name level_named levels))
    (then_silent (boxes_reads (codes "State") (map state_name states) (quiet (codes "State") refl) (each_box state_name state_named states)) filters_end_quiet)))

-- ---- the results

nothing_reads : Reads nothing_reported (of_class (codes "empty"))
unfolding nothing_reported
nothing_reads = reads_to (codes "/p>\n") (λ word. record { moves = λ rest. refl })

more_reads : (more hits : ℕ) → Reads (more_line more hits) (mind_attributes more)
unfolding more_line
more_reads more hits = said_if more (more_quiet more hits)

rest_reads : (unshown : ℕ) (tables : Tables) → Reads (rest_line unshown tables) (rest_attributes unshown tables)
unfolding rest_line
rest_reads unshown tables =
    either_reads (tables.all_hits == 0 && tables.all_others == 0)
    (either_reads (unshown == 0) nothing_reads (outside [] refl))
    (more_reads (without_row tables.all_hits tables.hits + without_row tables.all_others tables.others) (without_row tables.all_hits tables.hits))

results_reads : (stopping : Stopping) (max : ℕ) (tables : Tables) (unshown : ℕ)
    → Reads (results_of stopping max tables unshown) (results_attributes stopping max tables unshown)
unfolding results_of sections filters_of
results_reads stopping max tables unshown =
    then_reads (filters_reads (levels_in (tables.hits ++ tables.others)) (states_in (tables.hits ++ tables.others)))
    (then_reads
    (then_reads (section_reads (hits_part stopping max tables) tables.hits (quiet (codes "hits") refl) (heading_quiet stopping tables.marked tables.all_hits max))
    (section_reads (others_part tables) tables.others (quiet (codes "others") refl) (others_quiet tables.all_others)))
    (then_reads (rest_reads unshown tables) (unshown_reads unshown)))

-- ---- the page

header_end_quiet : Silent header_end
unfolding header_end
header_end_quiet = quiet header_end refl

page_end_quiet : Silent page_end
unfolding page_end
page_end_quiet = quiet page_end refl

below_reads : (facts : Facts) → Reads (below_counts facts) (minds_attributes (noted_in facts) ++ conditions_attributes facts.ruling)
unfolding below_counts
below_reads facts = then_reads (minds_reads (noted_in facts)) (then_silent (conditions_reads facts.ruling) header_end_quiet)

page_reads : (facts : Facts) (tables : Tables) → Reads (page_of facts tables) (page_attributes_by facts tables)
unfolding page_of
page_reads facts tables =
    then_reads (top_reads facts) (then_reads (links_reads tables) (then_reads (counts_reads facts.count (marks_by facts.ruling facts.policy))
    (then_reads (below_reads facts)
    (then_reads (results_reads (gate_stopping facts) facts.policy.max tables (unshown_results facts))
    (then_silent (accept_reads (gate_hits facts)) page_end_quiet)))))

whole_reads : (facts : Facts) → Reads (html_of facts) (page_attributes facts)
unfolding html_of
whole_reads facts = page_reads facts (tables_of facts.link facts.findings)

pub page_attributes_read : (facts : Facts) → attributes_in (html_of facts) ≡ page_attributes facts
page_attributes_read facts =
    ap attributes_in (sym (append-nil (html_of facts))) ∙ ((whole_reads facts).reads []).1.moves [] ∙ append-nil (page_attributes facts)
