-- A reader of a page finds in its rows the attributes that are stated for their results.
use Rattle.std.proofs.Common.{◌≡◌, ◌+◌, ◌==◌, ◌++◌, ℕ, Bool, true, false, cond, List, [], ◌∷◌, Option, Some, None, codes, flat_map, append-nil, append_assoc, if◌then◌else◌, refl, sym, ap, subst, ◌∙◌, arith}
use Rattle.std.proofs.lemmas.List.Sums.{sum_by-cons}
use Rattle.sarif_model.specs.Level.{level_name}
use Rattle.sarif_model.specs.State.{state_name}
use Rattle.sarif_counts.specs.Impacts.{is_hit}
use Rattle.sarif_findings.specs.declared.finding.Finding.{Finding}
use Rattle.sarif_findings.specs.Finding.{numbered, place_path}
use Rattle.sarif_shown.specs.declared.escaping.Escaping.TheVariants.{Page}
use Rattle.sarif_shown.specs.Escaped.{escaped}
use Rattle.sarif_shown.specs.Linked.{place_link}
use Rattle.sarif_page.specs.HtmlAttributes.{Attribute, word_after, attributes_from, attributes_in, data_attributes, title_attributes, link_attributes, path_attributes, rule_attributes, row_attributes}
use Rattle.sarif_page.specs.HtmlLaws.{quotes_in}
use Rattle.sarif_page.specs.HtmlRow.{hit_word, row_data, row_front, spot_in, place_of, linked_place, message_cells, title_of, link_begin, rule_code, rule_cell, tool_cells, result_row, rows_html, linked}
use Rattle.sarif_page.proofs.TagsCounted.{escaped_none, hit_none, level_none, message_marks, plain_marks, spot_marks, state_none, tool_marks}

-- reading a string adds these attributes
pub record Moves (text word : List ℕ) (value : Option (List ℕ)) (found : List Attribute) (word' : List ℕ) (value' : Option (List ℕ)) : Type 0 where
  pub moves : (rest : List ℕ) → attributes_from word value (text ++ rest) ≡ found ++ attributes_from word' value' rest

pub then_moves : {a b word word' word'' : List ℕ} {value value' value'' : Option (List ℕ)} {first second : List Attribute}
    → Moves a word value first word' value' → Moves b word' value' second word'' value'' → Moves (a ++ b) word value (first ++ second) word'' value''
then_moves {a} {b} {word} {word'} {word''} {value} {value'} {value''} {first} {second} one two = record {
  moves = λ rest. ap (attributes_from word value) (append_assoc a b rest) ∙ one.moves (b ++ rest)
      ∙ ap (λ l. first ++ l) (two.moves rest) ∙ sym (append_assoc first second (attributes_from word'' value'' rest));
}

-- reading a string outside of an attribute adds these, after any word
pub record Reads (text : List ℕ) (found : List Attribute) : Type 0 where
  pub reads : (word : List ℕ) → (word' : List ℕ) × Moves text word None found word' None

pub reads_to : {text : List ℕ} {found : List Attribute} (word' : List ℕ) → ((word : List ℕ) → Moves text word None found word' None) → Reads text found
reads_to word' each = record { reads = λ word. (word', each word) }

pub then_reads : {a b : List ℕ} {first second : List Attribute} → Reads a first → Reads b second → Reads (a ++ b) (first ++ second)
then_reads one two = record { reads = λ word. let x = one.reads word in let y = two.reads x.0 in (y.0, then_moves x.1 y.1) }

no_quote : (b : ℕ) (bs : List ℕ) → quotes_in (b ∷ bs) ≡ 0 → ((b == 34) ≡ false) × (quotes_in bs ≡ 0)
no_quote b bs h = by (b == 34) refl (sym (sum_by-cons (λ c. cond (c == 34) 1 0) b bs) ∙ h) where
  by : (t : Bool) → (b == 34) ≡ t → cond {A = ℕ} (b == 34) 1 0 + quotes_in bs ≡ 0 → ((b == 34) ≡ false) × (quotes_in bs ≡ 0)
  by true e g = absurd (omega (arith, ap (λ t. cond {A = ℕ} t 1 0) e, g))
  by false e g = (e, omega (arith, g))

-- a string without quotes, outside and within an attribute
pub outside : (text : List ℕ) → quotes_in text ≡ 0 → Reads text []
outside [] h = record { reads = λ word. (word, record { moves = λ rest. refl }) }
outside (b ∷ bs) h =
    let parts = no_quote b bs h in
    record {
      reads = λ word. let later = (outside bs parts.1).reads (word_after word b) in (
        later.0,
        record {
          moves = λ rest.
              ap (λ t. if t then attributes_from word (Some []) (bs ++ rest) else attributes_from (word_after word b) None (bs ++ rest)) parts.0
              ∙ later.1.moves rest;
        },
      );
    }

pub within : (text word value : List ℕ) → quotes_in text ≡ 0 → Moves text word (Some value) [] word (Some (value ++ text))
within [] word value h = record { moves = λ rest. ap (λ l. attributes_from word (Some l) rest) (sym (append-nil value)) }
within (b ∷ bs) word value h =
    let parts = no_quote b bs h in
    let later = within bs word (value ++ b ∷ []) parts.1 in
    record {
      moves = λ rest.
          ap
          (λ t. if t then (word, value) ∷ attributes_from [] None (bs ++ rest) else attributes_from word (Some (value ++ b ∷ [])) (bs ++ rest))
          parts.0
          ∙ later.moves rest
          ∙ ap (λ l. attributes_from word (Some l) rest) (append_assoc value (b ∷ []) bs);
    }

-- ---- the data of a row

level_begin : (word : List ℕ) → Moves (codes "<li data-level=\"") word None [] (codes "data-level=") (Some [])
level_begin word = record { moves = λ rest. refl }

state_begin : (word value : List ℕ) → Moves (codes "\" data-state=\"") word (Some value) ((word, value) ∷ []) (codes "data-state=") (Some [])
state_begin word value = record { moves = λ rest. refl }

hit_begin : (word value : List ℕ) → Moves (codes "\" data-hit=\"") word (Some value) ((word, value) ∷ []) (codes "data-hit=") (Some [])
hit_begin word value = record { moves = λ rest. refl }

data_end : (word value : List ℕ) → Moves (codes "\">") word (Some value) ((word, value) ∷ []) (codes ">") None
data_end word value = record { moves = λ rest. refl }

data_reads : (level state hit : List ℕ) → quotes_in level ≡ 0 → quotes_in state ≡ 0 → quotes_in hit ≡ 0
    → Reads (row_data level state hit) ((codes "data-level=", level) ∷ (codes "data-state=", state) ∷ (codes "data-hit=", hit) ∷ [])
data_reads level state hit l s h = reads_to (codes ">") (λ word.
    then_moves (level_begin word) (then_moves (within level (codes "data-level=") [] l)
    (then_moves (state_begin (codes "data-level=") level) (then_moves (within state (codes "data-state=") [] s)
    (then_moves (hit_begin (codes "data-state=") state) (then_moves (within hit (codes "data-hit=") [] h) (data_end (codes "data-hit=") hit)))))))

front_reads : (f : Finding) → Reads (row_front f) (data_attributes f)
unfolding row_front
front_reads f =
    data_reads (level_name f.level) (state_name f.state) (hit_word (is_hit f.impact)) (level_none f.level).quoted (state_none f.state).quoted (hit_none (is_hit f.impact)).quoted

-- ---- links

title_begin : Moves (codes " title=\"") [] None [] (codes "title=") (Some [])
title_begin = record { moves = λ rest. refl }

pub quote_end : (word value : List ℕ) → Moves (codes "\"") word (Some value) ((word, value) ∷ []) [] None
quote_end word value = record { moves = λ rest. refl }

no_title : Moves [] [] None [] [] None
no_title = record { moves = λ rest. refl }

title_moves : (name : Option (List ℕ)) → Moves (title_of name) [] None (title_attributes name) [] None
title_moves None = no_title
title_moves (Some name) =
    then_moves title_begin
    (then_moves (within (escaped Page name) (codes "title=") [] (escaped_none name).quoted) (quote_end (codes "title=") (escaped Page name)))

href_begin : (word : List ℕ) → Moves (codes "<a href=\"") word None [] (codes "href=") (Some [])
href_begin word = record { moves = λ rest. refl }

rel_moves : Moves (codes " rel=\"noopener noreferrer\">") [] None ((codes "rel=", codes "noopener noreferrer") ∷ []) (codes ">") None
rel_moves = record { moves = λ rest. refl }

begin_reads : (address : List ℕ) (name : Option (List ℕ)) → Reads (link_begin address name) (link_attributes (Some address) name)
unfolding link_begin
begin_reads address name = reads_to (codes ">") (λ word.
    then_moves (href_begin word) (then_moves (within (escaped Page address) (codes "href=") [] (escaped_none address).quoted)
    (then_moves (quote_end (codes "href=") (escaped Page address)) (then_moves (title_moves name) rel_moves))))

in_link : {text : List ℕ} {found : List Attribute} (address : List ℕ) (name : Option (List ℕ)) → Reads text found
    → Reads (link_begin address name ++ (text ++ codes "</a>")) (link_attributes (Some address) name ++ (found ++ []))
in_link address name reads = then_reads (begin_reads address name) (then_reads reads (outside (codes "</a>") refl))

-- ---- the parts of a row

class_begin : (word : List ℕ) → Moves (codes "<code class=\"all\"><i>") word None ((codes "class=", codes "all") ∷ []) (codes "i>") None
class_begin word = record { moves = λ rest. refl }

class_reads : (text : List ℕ) → quotes_in text ≡ 0
    → Reads (codes "<code class=\"all\"><i>" ++ (text ++ codes "</i></code>")) ((codes "class=", codes "all") ∷ [])
class_reads text h = then_reads (reads_to (codes "i>") class_begin) (then_reads (outside text h) (outside (codes "</i></code>") refl))

path_reads : (path : Option (List ℕ)) (line column : Option ℕ) → Reads (place_of path line column) (path_attributes path line)
path_reads None line column = outside (codes "<code>-</code>") refl
path_reads (Some path) (Some line) column = outside (spot_in path (Some line) column) (spot_marks path (Some line) column).quoted
path_reads (Some path) None column =
    class_reads (escaped Page (place_path path ++ numbered column)) (escaped_none (place_path path ++ numbered column)).quoted

place_reads : (address : Option (List ℕ)) (f : Finding) → Reads (linked_place address f) (link_attributes address None ++ path_attributes f.path f.line)
place_reads None f = path_reads f.path f.line f.column
place_reads (Some address) f =
    subst (λ l. Reads (linked_place (Some address) f) (link_attributes (Some address) None ++ l)) (append-nil (path_attributes f.path f.line))
    (in_link address None (path_reads f.path f.line f.column))

pub linked_reads : (rule : List ℕ) (help name : Option (List ℕ)) → Reads (linked rule help name) (link_attributes help name)
linked_reads rule None name = outside (rule_code rule) (plain_marks rule).quoted
linked_reads rule (Some address) name =
    subst (Reads (linked rule (Some address) name)) (append-nil (link_attributes (Some address) name))
    (in_link address name (outside (rule_code rule) (plain_marks rule).quoted))

rule_reads : (rule : List ℕ) (help name : Option (List ℕ)) → Reads (rule_cell rule help name) (rule_attributes rule help name)
rule_reads [] help name = outside [] refl
rule_reads (b ∷ bs) help name =
    subst (Reads (rule_cell (b ∷ bs) help name)) (append-nil (link_attributes help name))
    (then_reads (linked_reads (b ∷ bs) help name) (outside (codes " ") refl))

row_reads : (link : Option (List ℕ)) (f : Finding) → Reads (result_row link f) (row_attributes link f)
unfolding result_row
row_reads link f =
    subst (Reads (result_row link f)) (regrouped (data_attributes f) (link_attributes (place_link link f) None) (path_attributes f.path f.line) (rule_attributes f.rule f.help f.rule_name))
    (then_reads (front_reads f) (then_reads (place_reads (place_link link f) f) (then_reads (outside (message_cells f) (message_marks f).quoted)
    (then_reads (rule_reads f.rule f.help f.rule_name) (outside (tool_cells f) (tool_marks f).quoted)))))
  where
    regrouped : (a b c d : List Attribute) → a ++ ((b ++ c) ++ ([] ++ (d ++ []))) ≡ a ++ (b ++ (c ++ d))
    regrouped a b c d = ap (λ l. a ++ ((b ++ c) ++ l)) (append-nil d) ∙ ap (λ l. a ++ l) (append_assoc b c d)

pub rows_reads : (link : Option (List ℕ)) (fs : List Finding) → Reads (rows_html link fs) (flat_map (row_attributes link) fs)
rows_reads link [] = outside [] refl
rows_reads link (f ∷ fs) = then_reads (row_reads link f) (rows_reads link fs)

pub attributes_read : (link : Option (List ℕ)) (fs : List Finding) → attributes_in (rows_html link fs) ≡ flat_map (row_attributes link) fs
attributes_read link fs =
    ap attributes_in (sym (append-nil (rows_html link fs))) ∙ ((rows_reads link fs).reads []).1.moves [] ∙ append-nil (flat_map (row_attributes link) fs)
