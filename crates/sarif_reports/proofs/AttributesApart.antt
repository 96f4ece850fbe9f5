-- A reader of attributes finds in the rows of the table in Markdown only those that are stated for them.
use Rattle.std.proofs.Common.{◌≡◌, ◌==◌, ◌++◌, ℕ, Bool, true, false, cond, List, [], ◌∷◌, Option, Some, None, codes, flat_map, append-nil, refl, sym, ap, subst, ◌∙◌, arith}
use Rattle.std.specs.List.{list_all}
use Rattle.std.proofs.lemmas.Bool.{and_parts, not-true}
use Rattle.std.proofs.lemmas.List.Sums.{sum_by-cons}
use Rattle.sarif_model.specs.declared.kinds.Level.{Level}
use Rattle.sarif_model.specs.declared.kinds.Level.TheVariants.{NoLevel, Note, Warning, Error}
use Rattle.sarif_model.specs.declared.kinds.State.{State}
use Rattle.sarif_model.specs.declared.kinds.State.TheVariants.{New, Unchanged, Updated, Absent}
use Rattle.sarif_model.specs.Level.{level_name}
use Rattle.sarif_model.specs.State.{state_name}
use Rattle.sarif_counts.specs.Impacts.{is_hit}
use Rattle.sarif_findings.specs.declared.code.Code.{Code}
use Rattle.sarif_findings.specs.declared.finding.Finding.{Finding}
use Rattle.sarif_findings.specs.CodeRows.{one_line}
use Rattle.sarif_findings.specs.Finding.{spot_text}
use Rattle.sarif_shown.specs.declared.escaping.Escaping.TheVariants.{Markdown, Page}
use Rattle.sarif_shown.specs.Escaped.{escaped}
use Rattle.sarif_shown.specs.Linked.{place_link}
use Rattle.sarif_shown.proofs.EscapedApart.{marks_apart}
use Rattle.sarif_page.specs.HtmlAttributes.{Attribute, attributes_in}
use Rattle.sarif_page.specs.HtmlLaws.{quotes_in}
use Rattle.sarif_page.proofs.AttributesRead.{Moves, Reads, outside, quote_end, then_moves, then_reads, within}
use Rattle.sarif_page.proofs.TagsCounted.{escaped_none}
use Rattle.sarif_reports.specs.MarkdownReport.{Row, anchor, code_line, code_of, hit_cell, is_coded, linked, place_cells, row_text, rule_cell, rule_cells, title_of, tool_cells}
use Rattle.sarif_reports.specs.MarkdownTags.{link_attributes, row_attributes, rule_attributes, title_attributes}
use Rattle.sarif_reports.proofs.TagsApart.{is_other, plain_others, quotes_apart}

-- ---- escaped strings

others_unquoted : (text : List ℕ) → list_all (is_other 34) text ≡ true → quotes_in text ≡ 0
others_unquoted [] h = refl
others_unquoted (b ∷ bs) h =
    let parts = and_parts (is_other 34 b) (list_all (is_other 34) bs) h in
    let none = ap (λ t. cond {A = ℕ} t 1 0) (not-true (b == 34) parts.0) in
    omega (arith, none, sum_by-cons (λ c. cond (c == 34) 1 0) b bs, others_unquoted bs parts.1)

unquoted : (text : List ℕ) → quotes_in (escaped Markdown text) ≡ 0
unquoted text = others_unquoted (escaped Markdown text) (plain_others 34 quotes_apart (escaped Markdown text) (marks_apart text))

code_reads : (text : List ℕ) → Reads (code_of text) []
code_reads [] = outside [] refl
code_reads (b ∷ bs) =
    then_reads (outside (codes "<code>") refl) (then_reads (outside (escaped Markdown (b ∷ bs)) (unquoted (b ∷ bs))) (outside (codes "</code>") refl))

-- ---- links

title_begins : Moves (codes " title=\"") [] None [] (codes "title=") (Some [])
title_begins = record { moves = λ rest. refl }

no_title : Moves [] [] None [] [] None
no_title = record { moves = λ rest. refl }

title_moves : (name : Option (List ℕ)) → Moves (title_of name) [] None (title_attributes name) [] None
title_moves None = no_title
title_moves (Some name) =
    then_moves title_begins (then_moves (within (escaped Markdown name) (codes "title=") [] (unquoted name)) (quote_end (codes "title=") (escaped Markdown name)))

link_begins : (word : List ℕ) → Moves (codes "<a href=\"") word None [] (codes "href=") (Some [])
link_begins word = record { moves = λ rest. refl }

in_link : (text : List ℕ) → Reads (codes ">" ++ (code_of text ++ codes "</a>")) []
in_link text = then_reads (outside (codes ">") refl) (then_reads (code_reads text) (outside (codes "</a>") refl))

anchor_reads : (address : List ℕ) (name : Option (List ℕ)) (text : List ℕ) → Reads (anchor address name text) (link_attributes (Some address) name)
anchor_reads address name text =
    let more = (in_link text).reads [] in
    subst (Reads (anchor address name text)) (ap (λ l. (codes "href=", escaped Page address) ∷ l) (append-nil (title_attributes name)))
    (record {
      reads = λ word. (
        more.0,
        then_moves (link_begins word) (then_moves (within (escaped Page address) (codes "href=") [] (escaped_none address).quoted)
            (then_moves (quote_end (codes "href=") (escaped Page address)) (then_moves (title_moves name) more.1))),
      );
    })

linked_reads : (address name : Option (List ℕ)) (text : List ℕ) → Reads (linked address name text) (link_attributes address name)
linked_reads None name text = code_reads text
linked_reads (Some address) name text = anchor_reads address name text

-- ---- a row

level_unquoted : (l : Level) → quotes_in (level_name l) ≡ 0
level_unquoted NoLevel = refl
level_unquoted Note = refl
level_unquoted Warning = refl
level_unquoted Error = refl

state_unquoted : (s : State) → quotes_in (state_name s) ≡ 0
state_unquoted New = refl
state_unquoted Unchanged = refl
state_unquoted Updated = refl
state_unquoted Absent = refl

hit_reads : (hit : Bool) → Reads (hit_cell hit) []
hit_reads true = outside (hit_cell true) refl
hit_reads false = outside (hit_cell false) refl

bar_reads : Reads (codes " | ") []
bar_reads = outside (codes " | ") refl

rule_reads : (rule : List ℕ) (help name : Option (List ℕ)) → Reads (rule_cell rule help name) (rule_attributes rule help name)
rule_reads [] help name = outside [] refl
rule_reads (b ∷ bs) help name = linked_reads help name (b ∷ bs)

line_reads : (coded : Bool) (code : Option Code) → Reads (code_line coded code) []
line_reads coded None = outside [] refl
line_reads false (Some code) = outside [] refl
line_reads true (Some code) = then_reads (outside (codes "<br>") refl) (code_reads (one_line code))

place_reads : (link : Option (List ℕ)) (f : Finding) → Reads (place_cells link f) (link_attributes (place_link link f) None ++ [])
place_reads link f =
    then_reads (hit_reads (is_hit f.impact)) (then_reads (outside (level_name f.level) (level_unquoted f.level))
    (then_reads bar_reads (then_reads (linked_reads (place_link link f) None (spot_text f)) bar_reads)))

said_reads : (coded : Bool) (f : Finding) → Reads (rule_cells coded f) (rule_attributes f.rule f.help f.rule_name ++ [])
said_reads coded f =
    then_reads (rule_reads f.rule f.help f.rule_name)
    (then_reads bar_reads (then_reads (then_reads (code_reads f.message) (line_reads coded f.code)) bar_reads))

tool_reads : (f : Finding) → Reads (tool_cells f) []
tool_reads f =
    then_reads (code_reads f.tool)
    (then_reads bar_reads (then_reads (outside (state_name f.state) (state_unquoted f.state)) (outside (codes " |\n") refl)))

regroup_row : (p r : List Attribute) → (p ++ []) ++ ((r ++ []) ++ []) ≡ p ++ r
regroup_row p r = simp append-nil

row_reads : (link : Option (List ℕ)) (row : Row) → Reads (row_text link row) (row_attributes link row)
row_reads link row =
    let f : Finding = row.1 in
    subst (Reads (row_text link row)) (regroup_row (link_attributes (place_link link f) None) (rule_attributes f.rule f.help f.rule_name))
    (then_reads (place_reads link f) (then_reads (said_reads (is_coded row) f) (tool_reads f)))

rows_read : (link : Option (List ℕ)) (rows : List Row) → Reads (flat_map (row_text link) rows) (flat_map (row_attributes link) rows)
rows_read link [] = outside [] refl
rows_read link (row ∷ rows) = then_reads (row_reads link row) (rows_read link rows)

pub attributes_read : (link : Option (List ℕ)) (rows : List Row) → attributes_in (flat_map (row_text link) rows) ≡ flat_map (row_attributes link) rows
attributes_read link rows =
    ap attributes_in (sym (append-nil (flat_map (row_text link) rows))) ∙ ((rows_read link rows).reads []).1.moves []
    ∙ append-nil (flat_map (row_attributes link) rows)
