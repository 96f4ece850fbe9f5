-- The tags and the quotes of a page's rows.
use Rattle.std.proofs.Common.{◌≡◌, ◌+◌, ◌==◌, ◌++◌, ℕ, Bool, true, false, not, ◌&&◌, ◌||◌, cond, List, [], ◌∷◌, Option, Some, None, codes, chars, flat_map, append-nil, if◌then◌else◌, refl, sym, ap, ap₂, ◌∙◌, arith}
use Rattle.std.specs.Fmt.{decimal}
use Rattle.std.specs.List.{sum_by, enumerate_from}
use Rattle.std.proofs.lemmas.Bool.{and_parts, or_parts, not-true}
use Rattle.std.proofs.lemmas.List.Sums.{sum_by-append, sum_by-cons}
use Rattle.sarif_model.specs.declared.kinds.Level.{Level}
use Rattle.sarif_model.specs.declared.kinds.Level.TheVariants.{NoLevel, Note, Warning, Error}
use Rattle.sarif_model.specs.declared.kinds.State.{State}
use Rattle.sarif_model.specs.declared.kinds.State.TheVariants.{New, Unchanged, Updated, Absent}
use Rattle.sarif_model.specs.Level.{level_name}
use Rattle.sarif_model.specs.State.{state_name}
use Rattle.sarif_counts.specs.Impacts.{is_hit}
use Rattle.sarif_shown.specs.declared.escaping.Escaping.TheVariants.{Page}
use Rattle.sarif_findings.specs.declared.code.Code.{Code}
use Rattle.sarif_findings.specs.declared.finding.Finding.{Finding}
use Rattle.sarif_findings.specs.CodeRows.{has_mark, row_of}
use Rattle.sarif_shown.specs.Linked.{place_link}
use Rattle.sarif_shown.specs.Escaped.{escaped, page_char}
use Rattle.sarif_shown.specs.EscapedLaws.{is_element_text, is_markup, begins_entity}
use Rattle.sarif_findings.specs.Finding.{numbered, place_path}
use Rattle.sarif_page.specs.HtmlBreaks.{break_if, broken, broken_after, breaks_after, breaks_in, ends_part, is_capital, is_small}
use Rattle.sarif_page.specs.HtmlCode.{code_cell, code_html, code_line, code_text, marked_if}
use Rattle.sarif_page.specs.HtmlRow.{hit_word, row_data, row_front, spot_in, place_of, linked_place, place_cell, bold, message_cells, title_of, link_begin, rule_code, rule_cell, tool_cells, result_row, rows_html, linked}
use Rattle.sarif_page.specs.HtmlLaws.{tags_in, quotes_in, link_tags, title_quotes, link_quotes, rule_tags, rule_quotes, path_tags, path_quotes, place_tags, place_quotes, mark_tags, code_tags, row_tags, row_quotes, begins_sign, is_code_text}
use Rattle.sarif_page.proofs.CodeApart.{code_apart}
use Rattle.sarif_shown.proofs.EscapedApart.{page_apart, page_chars}

-- the string has this many tags and quotes
pub record Marks (tags quotes : ℕ) (text : List ℕ) : Type 0 where
  pub tagged : tags_in text ≡ tags
  pub quoted : quotes_in text ≡ quotes

fixed : (text : List ℕ) (m n : ℕ) → tags_in text ≡ m → quotes_in text ≡ n → Marks m n text
fixed text m n e f = record { tagged = e; quoted = f }

-- two pieces
then_marks : {a b : List ℕ} {m n p q : ℕ} → Marks m p a → Marks n q b → Marks (m + n) (p + q) (a ++ b)
then_marks {a} {b} first second = record {
  tagged = sum_by-append (λ c. cond (c == 60) 1 0) a b ∙ ap₂ (λ x y. x + y) first.tagged second.tagged;
  quoted = sum_by-append (λ c. cond (c == 34) 1 0) a b ∙ ap₂ (λ x y. x + y) first.quoted second.quoted;
}

-- an escaped text
none_in : (text : List ℕ) → is_element_text text ≡ true → Marks 0 0 text
none_in [] h = record { tagged = refl; quoted = refl }
none_in (b ∷ bs) h =
    let parts = and_parts (not (is_markup b)) ((not (b == 38) || begins_entity (b ∷ bs)) && is_element_text bs) h in
    let tests = or_parts (b == 60) (b == 62 || (b == 34 || b == 39)) (not-true (is_markup b) parts.0) in
    let more = or_parts (b == 62) (b == 34 || b == 39) tests.1 in
    let last = or_parts (b == 34) (b == 39) more.1 in
    let no_tag = ap (λ t. cond {A = ℕ} t 1 0) tests.0 in
    let no_quote = ap (λ t. cond {A = ℕ} t 1 0) last.0 in
    let rest = none_in bs (and_parts (not (b == 38) || begins_entity (b ∷ bs)) (is_element_text bs) parts.1).1 in
    record {
      tagged = omega (arith, no_tag, sum_by-cons (λ c. cond (c == 60) 1 0) b bs, rest.tagged);
      quoted = omega (arith, no_quote, sum_by-cons (λ c. cond (c == 34) 1 0) b bs, rest.quoted);
    }

pub escaped_none : (text : List ℕ) → Marks 0 0 (escaped Page text)
escaped_none text = none_in (escaped Page text) (page_apart text)

-- escaped code
none_in_code : (after_and : Bool) (text : List ℕ) → is_code_text after_and text ≡ true → Marks 0 0 text
none_in_code after_and [] h = record { tagged = refl; quoted = refl }
none_in_code after_and (b ∷ bs) h =
    let entity = not (b == 38) || (begins_entity (b ∷ bs) || begins_sign (b ∷ bs)) in
    let sign = not (b == 35) || after_and in
    let parts = and_parts (not (is_markup b)) (entity && (sign && is_code_text (b == 38) bs)) h in
    let tests = or_parts (b == 60) (b == 62 || (b == 34 || b == 39)) (not-true (is_markup b) parts.0) in
    let more = or_parts (b == 62) (b == 34 || b == 39) tests.1 in
    let last = or_parts (b == 34) (b == 39) more.1 in
    let no_tag = ap (λ t. cond {A = ℕ} t 1 0) tests.0 in
    let no_quote = ap (λ t. cond {A = ℕ} t 1 0) last.0 in
    let later = and_parts entity (sign && is_code_text (b == 38) bs) parts.1 in
    let rest = none_in_code (b == 38) bs (and_parts sign (is_code_text (b == 38) bs) later.1).1 in
    record {
      tagged = omega (arith, no_tag, sum_by-cons (λ c. cond (c == 60) 1 0) b bs, rest.tagged);
      quoted = omega (arith, no_quote, sum_by-cons (λ c. cond (c == 34) 1 0) b bs, rest.quoted);
    }

pub level_none : (l : Level) → Marks 0 0 (level_name l)
level_none NoLevel = record { tagged = refl; quoted = refl }
level_none Note = record { tagged = refl; quoted = refl }
level_none Warning = record { tagged = refl; quoted = refl }
level_none Error = record { tagged = refl; quoted = refl }

pub state_none : (s : State) → Marks 0 0 (state_name s)
state_none New = record { tagged = refl; quoted = refl }
state_none Unchanged = record { tagged = refl; quoted = refl }
state_none Updated = record { tagged = refl; quoted = refl }
state_none Absent = record { tagged = refl; quoted = refl }

pub hit_none : (hit : Bool) → Marks 0 0 (hit_word hit)
hit_none true = record { tagged = refl; quoted = refl }
hit_none false = record { tagged = refl; quoted = refl }

data_marks : {level state hit : List ℕ} → Marks 0 0 level → Marks 0 0 state → Marks 0 0 hit → Marks 1 6 (row_data level state hit)
data_marks l s h =
    then_marks (fixed (codes "<li data-level=\"") 1 1 refl refl) (then_marks l (then_marks (fixed (codes "\" data-state=\"") 0 2 refl refl)
    (then_marks s (then_marks (fixed (codes "\" data-hit=\"") 0 2 refl refl) (then_marks h (fixed (codes "\">") 0 1 refl refl))))))

front_marks : (f : Finding) → Marks 1 6 (row_front f)
unfolding row_front
front_marks f = data_marks (level_none f.level) (state_none f.state) (hit_none (is_hit f.impact))

-- a rule with its breaks
break_marks : (b : Bool) → Marks (if b then 1 else 0) 0 (break_if b)
break_marks true = record { tagged = refl; quoted = refl }
break_marks false = record { tagged = refl; quoted = refl }

char_none : (c : ℕ) → Marks 0 0 (page_char c)
char_none c =
    let one = none_in (page_char c ++ []) (page_chars (c ∷ [])) in
    record {
      tagged = sym (ap tags_in (append-nil (page_char c))) ∙ one.tagged;
      quoted = sym (ap quotes_in (append-nil (page_char c))) ∙ one.quoted;
    }

chars_marks : (small : Bool) (cs : List ℕ) → Marks (breaks_after small cs) 0 (broken_after small cs)
chars_marks small [] = record { tagged = refl; quoted = refl }
chars_marks small (c ∷ cs) =
    let whole = then_marks (then_marks (break_marks (small && is_capital c)) (then_marks (char_none c) (break_marks (ends_part c)))) (chars_marks (is_small c) cs) in
    record { tagged = whole.tagged ∙ omega arith; quoted = whole.quoted }

pub broken_marks : (text : List ℕ) → Marks (breaks_in text) 0 (broken text)
unfolding broken
broken_marks text = chars_marks false (chars text)

-- ---- links

title_marks : (name : Option (List ℕ)) → Marks 0 (title_quotes name) (title_of name)
title_marks None = record { tagged = refl; quoted = refl }
title_marks (Some name) =
    then_marks (fixed (codes " title=\"") 0 1 refl refl) (then_marks (escaped_none name) (fixed (codes "\"") 0 1 refl refl))

begin_marks : (address : List ℕ) (name : Option (List ℕ)) → Marks 1 (4 + title_quotes name) (link_begin address name)
unfolding link_begin
begin_marks address name =
    let whole =
    then_marks (fixed (codes "<a href=\"") 1 1 refl refl) (then_marks (escaped_none address) (then_marks (fixed (codes "\"") 0 1 refl refl)
    (then_marks (title_marks name) (fixed (codes " rel=\"noopener noreferrer\">") 0 2 refl refl)))) in
    record { tagged = whole.tagged ∙ omega arith; quoted = whole.quoted ∙ omega arith }

-- a string in a link
in_link : {text : List ℕ} {m n : ℕ} (address : List ℕ) (name : Option (List ℕ)) → Marks m n text
    → Marks (2 + m) ((4 + title_quotes name) + n) (link_begin address name ++ (text ++ codes "</a>"))
in_link address name marks =
    let whole = then_marks (begin_marks address name) (then_marks marks (fixed (codes "</a>") 1 0 refl refl)) in
    record { tagged = whole.tagged ∙ omega arith; quoted = whole.quoted ∙ omega arith }

-- ---- the place

pub spot_marks : (path : List ℕ) (line column : Option ℕ) → Marks 4 (path_quotes (Some path) line) (spot_in path line column)
spot_marks path None column =
    then_marks (fixed (codes "<code class=\"all\"><i>") 2 2 refl refl)
    (then_marks (escaped_none (place_path path ++ numbered column)) (fixed (codes "</i></code>") 2 0 refl refl))
spot_marks path (Some line) column =
    then_marks (fixed (codes "<code><i>") 2 0 refl refl) (then_marks (escaped_none (place_path path)) (then_marks (fixed (codes ":</i>") 1 0 refl refl)
    (then_marks (escaped_none (decimal line ++ numbered column)) (fixed (codes "</code>") 1 0 refl refl))))

place_marks : (path : Option (List ℕ)) (line column : Option ℕ) → Marks (path_tags path) (path_quotes path line) (place_of path line column)
place_marks None line column = record { tagged = refl; quoted = refl }
place_marks (Some path) line column = spot_marks path line column

linked_marks : (address : Option (List ℕ)) (f : Finding)
    → Marks (path_tags f.path + link_tags address) (path_quotes f.path f.line + link_quotes address None) (linked_place address f)
linked_marks None f =
    let own = place_marks f.path f.line f.column in
    record { tagged = own.tagged ∙ omega arith; quoted = own.quoted ∙ omega arith }
linked_marks (Some address) f =
    let whole = in_link address None (place_marks f.path f.line f.column) in
    record { tagged = whole.tagged ∙ omega arith; quoted = whole.quoted ∙ omega arith }

cell_marks : (link : Option (List ℕ)) (f : Finding) → Marks (place_tags link f) (place_quotes link f) (place_cell link f)
cell_marks link f = linked_marks (place_link link f) f

-- ---- the rule

pub plain_marks : (rule : List ℕ) → Marks (2 + breaks_in rule) 0 (rule_code rule)
plain_marks rule =
    let whole =
    then_marks (fixed (codes "<code>") 1 0 refl refl) (then_marks (broken_marks rule) (fixed (codes "</code>") 1 0 refl refl)) in
    record { tagged = whole.tagged ∙ omega arith; quoted = whole.quoted }

link_marks : (rule : List ℕ) (help name : Option (List ℕ)) → Marks (2 + (breaks_in rule + link_tags help)) (link_quotes help name) (linked rule help name)
link_marks rule None name =
    let own = plain_marks rule in
    record { tagged = own.tagged ∙ omega arith; quoted = own.quoted }
link_marks rule (Some address) name =
    let whole = in_link address name (plain_marks rule) in
    record { tagged = whole.tagged ∙ omega arith; quoted = whole.quoted ∙ omega arith }

-- with a space after it
spaced : {text : List ℕ} {m n : ℕ} → Marks m n text → Marks m n (text ++ codes " ")
spaced marks =
    let whole = then_marks marks (fixed (codes " ") 0 0 refl refl) in
    record { tagged = whole.tagged ∙ omega arith; quoted = whole.quoted ∙ omega arith }

rule_marks : (rule : List ℕ) (help name : Option (List ℕ)) → Marks (rule_tags rule help) (rule_quotes rule help name) (rule_cell rule help name)
rule_marks [] help name = record { tagged = refl; quoted = refl }
rule_marks (b ∷ bs) help name = spaced (link_marks (b ∷ bs) help name)

-- ---- the code

text_none : (text : List ℕ) → Marks 0 0 (code_text text)
text_none text = none_in_code false (code_text text) (code_apart text)

marked_marks : (b : Bool) (text : List ℕ) → Marks (if b then 2 else 0) 0 (marked_if b text)
marked_marks true text =
    then_marks (fixed (codes "<mark>") 1 0 refl refl) (then_marks (text_none text) (fixed (codes "</mark>") 1 0 refl refl))
marked_marks false text = text_none text

newline_none : (b : Bool) → Marks 0 0 (if b then [] else codes "\n")
newline_none true = record { tagged = refl; quoted = refl }
newline_none false = record { tagged = refl; quoted = refl }

line_marks : (code : Code) (line : ℕ × List ℕ) → Marks (mark_tags code line) 0 (code_line code line)
unfolding code_line
line_marks code line =
    let whole = then_marks (newline_none (line.0 == 0)) (marked_marks (has_mark code line.0) (row_of code line.0 line.1)) in
    record { tagged = whole.tagged ∙ omega arith; quoted = whole.quoted }

lines_marks : (code : Code) (lines : List (ℕ × List ℕ)) → Marks (sum_by (mark_tags code) lines) 0 (flat_map (code_line code) lines)
lines_marks code [] = record { tagged = refl; quoted = refl }
lines_marks code (line ∷ lines) =
    let whole = then_marks (line_marks code line) (lines_marks code lines) in
    record { tagged = whole.tagged ∙ sym (sum_by-cons (mark_tags code) line lines); quoted = whole.quoted }

html_marks : (code : Code) → Marks (4 + sum_by (mark_tags code) (enumerate_from 0 code.lines)) 0 (code_html code)
unfolding code_html
html_marks code =
    let whole =
    then_marks (fixed (codes "<pre><code>") 2 0 refl refl) (then_marks (lines_marks code (enumerate_from 0 code.lines))
    (fixed (codes "</code></pre>") 2 0 refl refl)) in
    record { tagged = whole.tagged ∙ omega arith; quoted = whole.quoted }

code_marks : (code : Option Code) → Marks (code_tags code) 0 (code_cell code)
code_marks None = record { tagged = refl; quoted = refl }
code_marks (Some code) = html_marks code

-- ---- the row

bold_marks : {name : List ℕ} → Marks 0 0 name → Marks 2 0 (bold name)
bold_marks name = then_marks (fixed (codes "<b>") 1 0 refl refl) (then_marks name (fixed (codes "</b> ") 1 0 refl refl))

pub message_marks : (f : Finding) → Marks (5 + code_tags f.code) 0 (message_cells f)
unfolding message_cells
message_marks f =
    let whole =
    then_marks (fixed (codes " ") 0 0 refl refl) (then_marks (bold_marks (level_none f.level)) (then_marks (fixed (codes "<p>") 1 0 refl refl)
    (then_marks (escaped_none f.message) (then_marks (fixed (codes "</p>") 1 0 refl refl)
    (then_marks (code_marks f.code) (fixed (codes " <div>") 1 0 refl refl)))))) in
    record { tagged = whole.tagged ∙ omega arith; quoted = whole.quoted }

pub tool_marks : (f : Finding) → Marks 6 0 (tool_cells f)
unfolding tool_cells
tool_marks f =
    then_marks (fixed (codes "<span>") 1 0 refl refl) (then_marks (bold_marks (state_none f.state))
    (then_marks (escaped_none f.tool) (fixed (codes "</span></div></li>\n") 3 0 refl refl)))

row_marks : (link : Option (List ℕ)) (f : Finding) → Marks (row_tags link f) (row_quotes link f) (result_row link f)
unfolding result_row
row_marks link f =
    let whole =
    then_marks (front_marks f) (then_marks (cell_marks link f) (then_marks (message_marks f)
    (then_marks (rule_marks f.rule f.help f.rule_name) (tool_marks f)))) in
    record { tagged = whole.tagged ∙ omega arith; quoted = whole.quoted ∙ omega arith }

rows_marks : (link : Option (List ℕ)) (fs : List Finding) → Marks (sum_by (row_tags link) fs) (sum_by (row_quotes link) fs) (rows_html link fs)
rows_marks link [] = record { tagged = refl; quoted = refl }
rows_marks link (f ∷ fs) =
    let whole = then_marks (row_marks link f) (rows_marks link fs) in
    record { tagged = whole.tagged ∙ sym (sum_by-cons (row_tags link) f fs); quoted = whole.quoted ∙ sym (sum_by-cons (row_quotes link) f fs) }

pub tags_counted : (link : Option (List ℕ)) (fs : List Finding) → tags_in (rows_html link fs) ≡ sum_by (row_tags link) fs
tags_counted link fs = (rows_marks link fs).tagged

pub quotes_counted : (link : Option (List ℕ)) (fs : List Finding) → quotes_in (rows_html link fs) ≡ sum_by (row_quotes link) fs
quotes_counted link fs = (rows_marks link fs).quoted
