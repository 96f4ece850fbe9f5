-- The report for job summaries and comments on a change: the verdict, the counts, a table of the conditions of a policy,
-- and one of the first listed results.
use Rattle.std.specs.Prelude.{ℕ, ◌-◌, Bool, true, false, ◌==◌, List, [], ◌∷◌, ◌++◌, Option, Some, None, ◌&&◌, length, take, drop, codes, flat_map, nat_le, nat_lt, if◌then◌else◌}
use Rattle.std.specs.List.{count_by, enumerate_from}
use Rattle.sarif_model.specs.declared.kinds.Level.{Level}
use Rattle.sarif_model.specs.declared.kinds.State.{State}
use Rattle.sarif_model.specs.declared.kinds.State.TheVariants.{New, Unchanged, Updated, Absent}
use Rattle.sarif_model.specs.Level.{level_name}
use Rattle.sarif_model.specs.State.{state_name}
use Rattle.sarif_counts.specs.declared.gate_verdict.Verdict.{Verdict}
use Rattle.sarif_counts.specs.Hits.{Count}
use Rattle.sarif_counts.specs.Impacts.{is_hit}
use Rattle.sarif_conditions.specs.declared.facts.ConditionFacts.{ConditionFacts}
use Rattle.sarif_conditions.specs.declared.facts.PolicyFacts.{PolicyFacts}
use Rattle.sarif_shown.specs.ConditionRow.{condition_cells}
use Rattle.sarif_shown.specs.CountRow.{row_of, numbers_of}
use Rattle.sarif_shown.specs.declared.noted.Noted.{Noted}
use Rattle.sarif_findings.specs.declared.finding.Finding.{Finding}
use Rattle.sarif_shown.specs.declared.escaping.Escaping.TheVariants.{Markdown, Page}
use Rattle.sarif_findings.specs.declared.code.Code.{Code}
use Rattle.sarif_findings.specs.CodeRows.{one_line}
use Rattle.sarif_findings.specs.Finding.{spot_text}
use Rattle.sarif_shown.specs.Linked.{place_link}
use Rattle.sarif_shown.specs.Escaped.{escaped}
use Rattle.sarif_shown.specs.Facts.{Facts}
use Rattle.sarif_shown.specs.Listed.{listed}
use Rattle.sarif_shown.specs.Ruled.{gate_ending, gate_hits, gate_verdict, noted_in, unshown_results}
use Rattle.sarif_shown.specs.Sentences.{accept_text, entries_text, filters_text, gate_text, more_text, outside_text, runs_text, unchecked_text, unshown_text}

-- ---- strings

-- a string as code, without markup; an empty string gives nothing
abbrev pub code_of : List ℕ → List ℕ
code_of [] = []
code_of (b ∷ bs) = codes "<code>" ++ (escaped Markdown (b ∷ bs) ++ codes "</code>")

abbrev pub heading : Verdict → List ℕ → List ℕ
heading verdict end = codes "## " ++ (gate_text verdict end ++ codes "\n\n")

abbrev pub count_row : State → (Level → Bool → ℕ) → List ℕ
count_row state numbers = row_of (state_name state) (numbers_of numbers)

abbrev pub counts_table : Count → List ℕ
counts_table count =
    codes "| | error | warning | note | none | suppressed |\n|---|--:|--:|--:|--:|--:|\n"
    ++ (count_row New (count New)
    ++ (count_row Unchanged (count Unchanged)
    ++ (count_row Updated (count Updated)
    ++ count_row Absent (count Absent))))

-- ---- what wasn't checked

-- a line, if there is a number to say something about
abbrev pub line_if : ℕ → List ℕ → List ℕ
line_if n text = if n == 0 then [] else text ++ codes "\n"

-- lines after an empty line, if there are any
abbrev pub paragraph : List ℕ → List ℕ
paragraph [] = []
paragraph (b ∷ bs) = codes "\n" ++ (b ∷ bs)

abbrev pub notes : Noted → List ℕ
notes n =
    line_if n.without (runs_text n.without) ++ (line_if n.unused (entries_text n.unused)
    ++ (line_if n.filters (filters_text n.filters) ++ (line_if n.outside (outside_text n.outside)
    ++ line_if n.unchecked (unchecked_text n.unchecked))))

-- ---- the table of conditions

-- | NAME | VERDICT | HITS | LIMIT | OUTSIDE |
abbrev pub condition_row : ConditionFacts → List ℕ
condition_row c =
    codes "| " ++ (code_of c.name ++ (condition_cells (codes " | ") [] c ++ codes " |\n"))

abbrev pub condition_rows : List ConditionFacts → List ℕ
condition_rows conditions = flat_map condition_row conditions

abbrev pub conditions_head : List ℕ
conditions_head =
    codes "\n| condition | verdict | hits | limit | outside |\n|---|---|--:|--:|--:|\n"

-- the table, if there is a policy
abbrev pub conditions_table : Option PolicyFacts → List ℕ
conditions_table None = []
conditions_table (Some ruling) = conditions_head ++ condition_rows ruling.conditions

-- ---- links

-- the name of what a link is about, as its title
abbrev pub title_of : Option (List ℕ) → List ℕ
title_of None = []
title_of (Some name) = codes " title=\"" ++ (escaped Markdown name ++ codes "\"")

-- a string as code, in a link to an address
abbrev pub anchor : List ℕ → Option (List ℕ) → List ℕ → List ℕ
anchor address name text =
    codes "<a href=\"" ++ (escaped Page address
    ++ (codes "\"" ++ (title_of name ++ (codes ">" ++ (code_of text ++ codes "</a>")))))

abbrev pub linked : Option (List ℕ) → Option (List ℕ) → List ℕ → List ℕ
linked None name text = code_of text
linked (Some address) name text = anchor address name text

-- ---- the table of results

abbrev pub hit_cell : Bool → List ℕ
hit_cell true = codes "| yes | "
hit_cell false = codes "|  | "

-- the place, which links to its address if there is one
abbrev pub place_cell : Option (List ℕ) → Finding → List ℕ
place_cell link finding = linked (place_link link finding) None (spot_text finding)

abbrev pub place_cells : Option (List ℕ) → Finding → List ℕ
place_cells link finding =
    hit_cell (is_hit finding.impact) ++ (level_name finding.level
    ++ (codes " | " ++ (place_cell link finding ++ codes " | ")))

-- the rule, which links to its page if there is one; no link without a rule
abbrev pub rule_cell : List ℕ → Option (List ℕ) → Option (List ℕ) → List ℕ
rule_cell [] help name = []
rule_cell (b ∷ bs) help name = linked help name (b ∷ bs)

-- a line of the code, if the row has one and there is code
abbrev pub code_line : Bool → Option Code → List ℕ
code_line coded None = []
code_line false (Some code) = []
code_line true (Some code) = codes "<br>" ++ code_of (one_line code)

abbrev pub message_cell : Bool → Finding → List ℕ
message_cell coded finding = code_of finding.message ++ code_line coded finding.code

abbrev pub rule_cells : Bool → Finding → List ℕ
rule_cells coded finding =
    rule_cell finding.rule finding.help finding.rule_name
    ++ (codes " | " ++ (message_cell coded finding ++ codes " | "))

abbrev pub tool_cells : Finding → List ℕ
tool_cells finding =
    code_of finding.tool ++ (codes " | " ++ (state_name finding.state ++ codes " |\n"))

-- | HIT | LEVEL | PLACE | RULE | MESSAGE | TOOL | STATE |
abbrev pub result_row : Option (List ℕ) → Bool → Finding → List ℕ
result_row link coded finding =
    place_cells link finding ++ (rule_cells coded finding ++ tool_cells finding)

-- the most results in the table, and the most bytes of their rows: a comment may have 65,536 characters
abbrev pub most_rows : ℕ
most_rows = 200

-- the most hits whose rows have a line of code
abbrev pub most_coded : ℕ
most_coded = 20

-- a listed result and its index; the hits are listed first
abbrev pub Row : Type 0
Row = ℕ × Finding

abbrev pub is_coded : Row → Bool
is_coded row = nat_lt row.0 most_coded && is_hit row.1.impact

abbrev pub row_text : Option (List ℕ) → Row → List ℕ
row_text link row = result_row link (is_coded row) row.1

abbrev pub most_bytes : ℕ
most_bytes = 60000

-- the bytes that the rows of results may have: with a policy the rows of its conditions count too
abbrev pub room_for : Option PolicyFacts → ℕ
room_for None = most_bytes
room_for (Some ruling) = most_bytes - length (condition_rows ruling.conditions)

-- as many of these, from the first on, as have rows that fit into this many bytes together
abbrev pub fitting : Option (List ℕ) → ℕ → List Row → List Row
fitting link room [] = []
fitting link room (row ∷ rows) =
    if nat_le (length (row_text link row)) room
    then row ∷ fitting link (room - length (row_text link row)) rows else []

-- as many of these results as have rows in the table, with their indexes
abbrev pub rows_of : Option (List ℕ) → ℕ → List Finding → List Row
rows_of link room findings = fitting link room (enumerate_from 0 (take most_rows findings))

-- the results in the table
abbrev pub in_table : Option (List ℕ) → ℕ → List Finding → List Row
in_table link room findings = rows_of link room (listed findings)

-- the results that have no row
abbrev pub left_out : Option (List ℕ) → ℕ → List Finding → List Finding
left_out link room findings = drop (length (in_table link room findings)) (listed findings)

abbrev pub more_line : ℕ → ℕ → List ℕ
more_line n hits = line_if n (more_text n hits)

abbrev pub others_line : List Finding → List ℕ
others_line others = more_line (length others) (count_by (λ f. is_hit f.impact) others)

abbrev pub results_head : List ℕ
results_head =
    codes
    "\n| hit | level | place | rule | message | tool | state |\n|---|---|---|---|---|---|---|\n"

-- the head of the table, if it has rows
abbrev pub head_for : ℕ → List ℕ
head_for rows = if rows == 0 then [] else results_head

-- the table, and the line on the results that have no row
abbrev pub results_table : Option (List ℕ) → ℕ → List Finding → List ℕ
results_table link room findings =
    head_for (length (in_table link room findings))
    ++ (flat_map (row_text link) (in_table link room findings)
    ++ paragraph (others_line (left_out link room findings)))

-- the line on reported results that are not shown, if there are any
unfoldable pub unshown_line : ℕ → List ℕ
unshown_line unshown = line_if unshown (unshown_text unshown)

-- the line on accepting the hits, if there are any
unfoldable pub accept_line : ℕ → List ℕ
accept_line hits = line_if hits (accept_text (codes "`") (codes "`") hits)

-- these two, each after an empty line
abbrev pub last_lines : ℕ → ℕ → List ℕ
last_lines unshown hits = paragraph (unshown_line unshown) ++ paragraph (accept_line hits)

abbrev pub markdown_of : Facts → List ℕ
markdown_of facts =
    heading (gate_verdict facts) (gate_ending facts)
    ++ (counts_table facts.count
    ++ (paragraph (notes (noted_in facts))
    ++ (conditions_table facts.ruling
    ++ (results_table facts.link (room_for facts.ruling) facts.findings
    ++ last_lines (unshown_results facts) (gate_hits facts)))))
