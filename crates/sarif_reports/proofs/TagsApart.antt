-- What a reader finds in the rows of the table in Markdown: only the tags that are stated for them, and no other marks.
use Rattle.std.proofs.Common.{◌≡◌, ◌==◌, ◌++◌, ℕ, Bool, true, false, not, ◌&&◌, ◌||◌, List, [], ◌∷◌, Option, Some, None, codes, flat_map, append-nil, append_assoc, if◌then◌else◌, refl, sym, ap, subst, ◌∙◌}
use Rattle.std.specs.Char.{is_ascii_digit}
use Rattle.std.specs.List.{list_all}
use Rattle.std.proofs.lemmas.Bool.{and_from, and_parts, eqb-true, false_from_ne_true, not-true, or_parts, true≢false}
use Rattle.std.proofs.lemmas.List.Folds.{list_all-append}
use Rattle.sarif_model.specs.declared.kinds.Level.{Level}
use Rattle.sarif_model.specs.declared.kinds.Level.TheVariants.{NoLevel, Note, Warning, Error}
use Rattle.sarif_model.specs.declared.kinds.State.{State}
use Rattle.sarif_model.specs.declared.kinds.State.TheVariants.{New, Unchanged, Updated, Absent}
use Rattle.sarif_model.specs.Level.{level_name}
use Rattle.sarif_model.specs.State.{state_name}
use Rattle.sarif_counts.specs.Impacts.{is_hit}
use Rattle.sarif_findings.specs.declared.code.Code.{Code}
use Rattle.sarif_findings.specs.declared.finding.Finding.{Finding}
use Rattle.sarif_findings.specs.CodeRows.{one_line}
use Rattle.sarif_findings.specs.Finding.{spot_text}
use Rattle.sarif_shown.specs.declared.escaping.Escaping.TheVariants.{Markdown, Page}
use Rattle.sarif_shown.specs.Escaped.{escaped, is_mark}
use Rattle.sarif_shown.specs.EscapedLaws.{begins_entity, begins_number, ends_number, has_no_mark, is_element_text, is_markup}
use Rattle.sarif_shown.specs.Linked.{place_link}
use Rattle.sarif_shown.proofs.EscapedApart.{marks_apart, page_apart}
use Rattle.sarif_reports.specs.MarkdownReport.{Row, anchor, code_line, code_of, hit_cell, is_coded, linked, place_cells, row_text, rule_cell, rule_cells, title_of, tool_cells}
use Rattle.sarif_reports.specs.MarkdownTags.{begins_number_in_row, code_tags, ends_number_in_row, ends_tag, has_row_marks, line_tags, link_tag, linked_tags, row_tags, rule_tags, tags_from, tags_of}

-- ---- reading on

-- the readers of marks between tags and within one
marks_from : Option (List ℕ) → List ℕ → Bool
marks_from None text = has_row_marks text
marks_from (Some tag) text = ends_tag text

-- a reader of a string finds these tags, and no other marks than a row may have
record Moves (text : List ℕ) (tag : Option (List ℕ)) (found : List (List ℕ)) (later : Option (List ℕ)) : Type 0 where
  tags : (rest : List ℕ) → tags_from tag (text ++ rest) ≡ found ++ tags_from later rest
  marks : (rest : List ℕ) → marks_from tag (text ++ rest) ≡ marks_from later rest

then_moves : {a b : List ℕ} {tag tag' tag'' : Option (List ℕ)} {first second : List (List ℕ)}
    → Moves a tag first tag' → Moves b tag' second tag'' → Moves (a ++ b) tag (first ++ second) tag''
then_moves {a} {b} {tag} {tag'} {tag''} {first} {second} one two = record {
  tags = λ rest. ap (tags_from tag) (append_assoc a b rest) ∙ one.tags (b ++ rest)
      ∙ ap (λ l. first ++ l) (two.tags rest) ∙ sym (append_assoc first second (tags_from tag'' rest));
  marks = λ rest. ap (marks_from tag) (append_assoc a b rest) ∙ one.marks (b ++ rest) ∙ two.marks rest;
}

-- reading it between tags
abbrev Reads : List ℕ → List (List ℕ) → Type 0
Reads text found = Moves text None found None

nothing : Reads [] []
unfolding marks_from
nothing = record { tags = λ rest. refl; marks = λ rest. refl }

-- ---- strings without a character

abbrev pub is_other : ℕ → ℕ → Bool
is_other k b = not (b == k)

other_from : (k b : ℕ) (bs : List ℕ) → (b == k) ≡ false → list_all (is_other k) bs ≡ true → list_all (is_other k) (b ∷ bs) ≡ true
other_from k b bs other rest = and_from (is_other k b) (list_all (is_other k) bs) (ap not other) rest

others_append : (k : ℕ) (xs ys : List ℕ) → list_all (is_other k) xs ≡ true → list_all (is_other k) ys ≡ true → list_all (is_other k) (xs ++ ys) ≡ true
others_append k xs ys h rest =
    list_all-append (is_other k) xs ys ∙ and_from (list_all (is_other k) xs) (list_all (is_other k) ys) h rest

-- without `>`, within a tag
within : (text tag : List ℕ) → list_all (is_other 62) text ≡ true → Moves text (Some tag) [] (Some (tag ++ text))
unfolding marks_from
within [] tag h = record { tags = λ rest. ap (λ l. tags_from (Some l) rest) (sym (append-nil tag)); marks = λ rest. refl }
within (b ∷ bs) tag h =
    let parts = and_parts (is_other 62 b) (list_all (is_other 62) bs) h in
    let other = not-true (b == 62) parts.0 in
    let later = within bs (tag ++ b ∷ []) parts.1 in
    record {
      tags = λ rest.
          ap (λ t. if t then tag ∷ tags_from None (bs ++ rest) else tags_from (Some (tag ++ b ∷ [])) (bs ++ rest)) other
          ∙ later.tags rest ∙ ap (λ l. tags_from (Some l) rest) (append_assoc tag (b ∷ []) bs);
      marks = λ rest. ap (λ t. if t then has_row_marks (bs ++ rest) else ends_tag (bs ++ rest)) other ∙ later.marks rest;
    }

-- without `<`, outside of tags
outside : (text rest : List ℕ) → list_all (is_other 60) text ≡ true → tags_from None (text ++ rest) ≡ tags_from None rest
outside [] rest h = refl
outside (b ∷ bs) rest h =
    let parts = and_parts (is_other 60 b) (list_all (is_other 60) bs) h in
    ap (λ t. if t then tags_from (Some []) (bs ++ rest) else tags_from None (bs ++ rest)) (not-true (b == 60) parts.0) ∙ outside bs rest parts.1

-- ---- strings without marks

unmarked : (b k : ℕ) → is_mark b ≡ false → is_mark k ≡ true → (b == k) ≡ false
unmarked b k none mark = false_from_ne_true (b == k) (λ same. true≢false (sym mark ∙ sym (ap is_mark (eqb-true b k same)) ∙ none))

only : (b k n : ℕ) → (b == k) ≡ true → (k == n) ≡ false → (b == n) ≡ false
only b k n same other = ap (λ m. m == n) (eqb-true b k same) ∙ other

-- a mark other than those of `&#N;`
pub record IsMarkApart (k : ℕ) : Type 0 where
  pub mark : is_mark k ≡ true
  pub and : (38 == k) ≡ false
  pub sign : (35 == k) ≡ false
  pub end : (59 == k) ≡ false
  pub digit : is_ascii_digit k ≡ false

opens_apart : IsMarkApart 60
opens_apart = record { mark = refl; and = refl; sign = refl; end = refl; digit = refl }

closes_apart : IsMarkApart 62
closes_apart = record { mark = refl; and = refl; sign = refl; end = refl; digit = refl }

pub quotes_apart : IsMarkApart 34
quotes_apart = record { mark = refl; and = refl; sign = refl; end = refl; digit = refl }

digit_other : (k b : ℕ) → is_ascii_digit k ≡ false → is_ascii_digit b ≡ true → (b == k) ≡ false
digit_other k b none digit =
    false_from_ne_true (b == k) (λ same. true≢false (sym digit ∙ ap is_ascii_digit (eqb-true b k same) ∙ none))

-- a byte between two numbers, and one within a number: the rest of the string has no such mark
plain_other_by : (and : Bool) (k : ℕ) (apart : IsMarkApart k) (b : ℕ) (bs : List ℕ) → (b == 38) ≡ and
    → (has_no_mark bs ≡ true → list_all (is_other k) bs ≡ true) → (begins_number bs ≡ true → list_all (is_other k) bs ≡ true)
    → (if and then begins_number bs else (not (is_mark b) && has_no_mark bs)) ≡ true → list_all (is_other k) (b ∷ bs) ≡ true
plain_other_by true k apart b bs same plain begun h = other_from k b bs (only b 38 k same apart.and) (begun h)
plain_other_by false k apart b bs other plain begun h =
    let parts = and_parts (not (is_mark b)) (has_no_mark bs) h in
    other_from k b bs (unmarked b k (not-true (is_mark b) parts.0) apart.mark) (plain parts.1)

ended_other_by : (end : Bool) (k : ℕ) (apart : IsMarkApart k) (b : ℕ) (bs : List ℕ) → (b == 59) ≡ end
    → (has_no_mark bs ≡ true → list_all (is_other k) bs ≡ true) → (ends_number bs ≡ true → list_all (is_other k) bs ≡ true)
    → (if end then has_no_mark bs else (is_ascii_digit b && ends_number bs)) ≡ true → list_all (is_other k) (b ∷ bs) ≡ true
ended_other_by true k apart b bs same plain ended h = other_from k b bs (only b 59 k same apart.end) (plain h)
ended_other_by false k apart b bs other plain ended h =
    let parts = and_parts (is_ascii_digit b) (ends_number bs) h in
    other_from k b bs (digit_other k b apart.digit parts.0) (ended parts.1)

mutual
  pub plain_others : (k : ℕ) (apart : IsMarkApart k) (text : List ℕ) → has_no_mark text ≡ true → list_all (is_other k) text ≡ true
  plain_others k apart [] h = refl
  plain_others k apart (b ∷ bs) h = plain_other_by (b == 38) k apart b bs refl (plain_others k apart bs) (begun_others k apart bs) h

  begun_others : (k : ℕ) (apart : IsMarkApart k) (text : List ℕ) → begins_number text ≡ true → list_all (is_other k) text ≡ true
  begun_others k apart [] h = refl
  begun_others k apart (b ∷ bs) h =
      let parts = and_parts (b == 35) (ends_number bs) h in
      other_from k b bs (only b 35 k parts.0 apart.sign) (ended_others k apart bs parts.1)

  ended_others : (k : ℕ) (apart : IsMarkApart k) (text : List ℕ) → ends_number text ≡ true → list_all (is_other k) text ≡ true
  ended_others k apart [] h = refl
  ended_others k apart (b ∷ bs) h = ended_other_by (b == 59) k apart b bs refl (plain_others k apart bs) (ended_others k apart bs) h

plain_marks_by : (and : Bool) (b : ℕ) (bs rest : List ℕ) → (b == 38) ≡ and
    → (has_no_mark bs ≡ true → has_row_marks (bs ++ rest) ≡ has_row_marks rest)
    → (begins_number bs ≡ true → begins_number_in_row (bs ++ rest) ≡ has_row_marks rest)
    → (if and then begins_number bs else (not (is_mark b) && has_no_mark bs)) ≡ true → has_row_marks (b ∷ (bs ++ rest)) ≡ has_row_marks rest
plain_marks_by true b bs rest same plain begun h = rw (only b 38 60 same refl, same) (begun h)
plain_marks_by false b bs rest other plain begun h =
    let parts = and_parts (not (is_mark b)) (has_no_mark bs) h in
    let none = not-true (is_mark b) parts.0 in
    rw (unmarked b 60 none refl, other, unmarked b 124 none refl, none) (plain parts.1)

ended_marks_by : (end : Bool) (b : ℕ) (bs rest : List ℕ) → (b == 59) ≡ end
    → (has_no_mark bs ≡ true → has_row_marks (bs ++ rest) ≡ has_row_marks rest)
    → (ends_number bs ≡ true → ends_number_in_row (bs ++ rest) ≡ has_row_marks rest)
    → (if end then has_no_mark bs else (is_ascii_digit b && ends_number bs)) ≡ true → ends_number_in_row (b ∷ (bs ++ rest)) ≡ has_row_marks rest
ended_marks_by true b bs rest same plain ended h = rw same (plain h)
ended_marks_by false b bs rest other plain ended h =
    let parts = and_parts (is_ascii_digit b) (ends_number bs) h in
    rw (other, parts.0) (ended parts.1)

mutual
  plain_marks : (text rest : List ℕ) → has_no_mark text ≡ true → has_row_marks (text ++ rest) ≡ has_row_marks rest
  plain_marks [] rest h = refl
  plain_marks (b ∷ bs) rest h = plain_marks_by (b == 38) b bs rest refl (plain_marks bs rest) (begun_marks bs rest) h

  begun_marks : (text rest : List ℕ) → begins_number text ≡ true → begins_number_in_row (text ++ rest) ≡ has_row_marks rest
  begun_marks [] rest h = absurd (true≢false (sym h))
  begun_marks (b ∷ bs) rest h =
      let parts = and_parts (b == 35) (ends_number bs) h in
      rw parts.0 (ended_marks bs rest parts.1)

  ended_marks : (text rest : List ℕ) → ends_number text ≡ true → ends_number_in_row (text ++ rest) ≡ has_row_marks rest
  ended_marks [] rest h = absurd (true≢false (sym h))
  ended_marks (b ∷ bs) rest h = ended_marks_by (b == 59) b bs rest refl (plain_marks bs rest) (ended_marks bs rest) h

quiet : (text : List ℕ) → has_no_mark text ≡ true → Reads text []
unfolding marks_from
quiet text h = record { tags = λ rest. outside text rest (plain_others 60 opens_apart text h); marks = λ rest. plain_marks text rest h }

-- ---- escaped strings

element_apart : (text : List ℕ) → is_element_text text ≡ true → list_all (is_other 62) text ≡ true
element_apart [] h = refl
element_apart (b ∷ bs) h =
    let entity = not (b == 38) || begins_entity (b ∷ bs) in
    let parts = and_parts (not (is_markup b)) (entity && is_element_text bs) h in
    let tests = or_parts (b == 60) (b == 62 || (b == 34 || b == 39)) (not-true (is_markup b) parts.0) in
    let more = or_parts (b == 62) (b == 34 || b == 39) tests.1 in
    other_from 62 b bs more.0 (element_apart bs (and_parts entity (is_element_text bs) parts.1).1)

code_reads : (text : List ℕ) → Reads (code_of text) (code_tags text)
unfolding marks_from
code_reads [] = nothing
code_reads (b ∷ bs) =
    then_moves code_begins (then_moves (quiet (escaped Markdown (b ∷ bs)) (marks_apart (b ∷ bs))) code_ends)
  where
    code_begins : Reads (codes "<code>") (codes "code" ∷ [])
    code_begins = record { tags = λ rest. refl; marks = λ rest. refl }

    code_ends : Reads (codes "</code>") (codes "/code" ∷ [])
    code_ends = record { tags = λ rest. refl; marks = λ rest. refl }

-- ---- links

title_apart : (name : Option (List ℕ)) → list_all (is_other 62) (title_of name) ≡ true
title_apart None = refl
title_apart (Some name) =
    others_append 62 (codes " title=\"") (escaped Markdown name ++ codes "\"") refl
    (others_append 62 (escaped Markdown name) (codes "\"") (plain_others 62 closes_apart (escaped Markdown name) (marks_apart name)) refl)

-- what follows the `<a href="`
in_tag : List ℕ → Option (List ℕ) → List ℕ
in_tag address name = escaped Page address ++ (codes "\"" ++ title_of name)

in_tag_apart : (address : List ℕ) (name : Option (List ℕ)) → list_all (is_other 62) (in_tag address name) ≡ true
unfolding in_tag
in_tag_apart address name =
    others_append 62 (escaped Page address) (codes "\"" ++ title_of name) (element_apart (escaped Page address) (page_apart address))
    (others_append 62 (codes "\"") (title_of name) refl (title_apart name))

link_begins : Moves (codes "<a href=\"") None [] (Some (codes "a href=\""))
unfolding marks_from
link_begins = record { tags = λ rest. refl; marks = λ rest. refl }

tag_ends : (tag : List ℕ) → Moves (codes ">") (Some tag) (tag ∷ []) None
unfolding marks_from
tag_ends tag = record { tags = λ rest. refl; marks = λ rest. refl }

link_ends : Reads (codes "</a>") (codes "/a" ∷ [])
unfolding marks_from
link_ends = record { tags = λ rest. refl; marks = λ rest. refl }

regroup_tag : (a q t rest : List ℕ) → (a ++ (q ++ t)) ++ rest ≡ a ++ (q ++ (t ++ rest))
regroup_tag a q t rest = simp append_assoc

anchor_reads : (address : List ℕ) (name : Option (List ℕ)) (text : List ℕ)
    → Reads (anchor address name text) (linked_tags (Some address) name text)
unfolding in_tag
anchor_reads address name text =
    subst (λ l. Reads (codes "<a href=\"" ++ l) (linked_tags (Some address) name text))
    (regroup_tag (escaped Page address) (codes "\"") (title_of name) (codes ">" ++ (code_of text ++ codes "</a>")))
    (then_moves link_begins
    (then_moves (within (in_tag address name) (codes "a href=\"") (in_tag_apart address name))
    (then_moves (tag_ends (link_tag address name)) (then_moves (code_reads text) link_ends))))

linked_reads : (address name : Option (List ℕ)) (text : List ℕ) → Reads (linked address name text) (linked_tags address name text)
linked_reads None name text = code_reads text
linked_reads (Some address) name text = anchor_reads address name text

-- ---- a row

level_quiet : (l : Level) → has_no_mark (level_name l) ≡ true
level_quiet NoLevel = refl
level_quiet Note = refl
level_quiet Warning = refl
level_quiet Error = refl

state_quiet : (s : State) → has_no_mark (state_name s) ≡ true
state_quiet New = refl
state_quiet Unchanged = refl
state_quiet Updated = refl
state_quiet Absent = refl

hit_reads : (hit : Bool) → Reads (hit_cell hit) []
unfolding marks_from
hit_reads true = record { tags = λ rest. refl; marks = λ rest. refl }
hit_reads false = record { tags = λ rest. refl; marks = λ rest. refl }

bar_reads : Reads (codes " | ") []
unfolding marks_from
bar_reads = record { tags = λ rest. refl; marks = λ rest. refl }

end_reads : Reads (codes " |\n") []
unfolding marks_from
end_reads = record { tags = λ rest. refl; marks = λ rest. refl }

rule_reads : (rule : List ℕ) (help name : Option (List ℕ)) → Reads (rule_cell rule help name) (rule_tags rule help name)
rule_reads [] help name = nothing
rule_reads (b ∷ bs) help name = linked_reads help name (b ∷ bs)

line_reads : (coded : Bool) (code : Option Code) → Reads (code_line coded code) (line_tags coded code)
unfolding marks_from
line_reads coded None = nothing
line_reads false (Some code) = nothing
line_reads true (Some code) = then_moves break_reads (code_reads (one_line code))
  where
    break_reads : Reads (codes "<br>") (codes "br" ∷ [])
    break_reads = record { tags = λ rest. refl; marks = λ rest. refl }

place_reads : (link : Option (List ℕ)) (f : Finding) → Reads (place_cells link f) (linked_tags (place_link link f) None (spot_text f) ++ [])
place_reads link f =
    then_moves (hit_reads (is_hit f.impact)) (then_moves (quiet (level_name f.level) (level_quiet f.level))
    (then_moves bar_reads (then_moves (linked_reads (place_link link f) None (spot_text f)) bar_reads)))

said_reads : (coded : Bool) (f : Finding)
    → Reads (rule_cells coded f) (rule_tags f.rule f.help f.rule_name ++ ((code_tags f.message ++ line_tags coded f.code) ++ []))
said_reads coded f =
    then_moves (rule_reads f.rule f.help f.rule_name)
    (then_moves bar_reads (then_moves (then_moves (code_reads f.message) (line_reads coded f.code)) bar_reads))

tool_reads : (f : Finding) → Reads (tool_cells f) (code_tags f.tool ++ [])
tool_reads f =
    then_moves (code_reads f.tool) (then_moves bar_reads (then_moves (quiet (state_name f.state) (state_quiet f.state)) end_reads))

regroup_row : (p r m d t : List (List ℕ)) → (p ++ []) ++ ((r ++ ((m ++ d) ++ [])) ++ (t ++ [])) ≡ p ++ (r ++ (m ++ (d ++ t)))
regroup_row p r m d t = simp (append_assoc, append-nil)

row_reads : (link : Option (List ℕ)) (row : Row) → Reads (row_text link row) (row_tags link row)
row_reads link row =
    let f : Finding = row.1 in
    let coded = is_coded row in
    subst (Reads (row_text link row))
    (regroup_row (linked_tags (place_link link f) None (spot_text f)) (rule_tags f.rule f.help f.rule_name) (code_tags f.message)
    (line_tags coded f.code) (code_tags f.tool))
    (then_moves (place_reads link f) (then_moves (said_reads coded f) (tool_reads f)))

rows_read : (link : Option (List ℕ)) (rows : List Row) → Reads (flat_map (row_text link) rows) (flat_map (row_tags link) rows)
rows_read link [] = nothing
rows_read link (row ∷ rows) = then_moves (row_reads link row) (rows_read link rows)

pub tags_read : (link : Option (List ℕ)) (rows : List Row) → tags_of (flat_map (row_text link) rows) ≡ flat_map (row_tags link) rows
tags_read link rows =
    ap tags_of (sym (append-nil (flat_map (row_text link) rows))) ∙ (rows_read link rows).tags [] ∙ append-nil (flat_map (row_tags link) rows)

pub marks_read : (link : Option (List ℕ)) (rows : List Row) → has_row_marks (flat_map (row_text link) rows) ≡ true
unfolding marks_from
marks_read link rows = ap has_row_marks (sym (append-nil (flat_map (row_text link) rows))) ∙ (rows_read link rows).marks []
