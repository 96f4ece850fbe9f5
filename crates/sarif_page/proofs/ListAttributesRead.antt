-- A reader of a list of the page finds the attributes that are stated for its groups, its rows and its rules.
use Rattle.std.proofs.Common.{◌≡◌, ◌+◌, ◌-◌, ◌/◌, ◌%◌, ◌==◌, ◌++◌, ℕ, zero, suc, Bool, true, false, not, cond, List, [], ◌∷◌, Option, Some, None, codes, flat_map, length, take, drop, nat_lt, append-nil, if◌then◌else◌, refl, sym, ap, ap₂, subst, ◌∙◌, arith}
use Rattle.std.specs.Fmt.{decimal, digits, digits_onto, digit_glyph}
use Rattle.std.specs.List.{list_any}
use Rattle.std.proofs.lemmas.Bool.{true≢false}
use Rattle.std.proofs.lemmas.Bool.Decides.{nat_tests}
use Rattle.std.proofs.lemmas.List.Sums.{sum_by-append, sum_by-cons}
use Rattle.sarif_model.specs.declared.kinds.Level.{Level}
use Rattle.sarif_model.specs.declared.kinds.Level.TheVariants.{NoLevel, Note, Warning, Error}
use Rattle.sarif_model.specs.declared.kinds.State.{State}
use Rattle.sarif_model.specs.declared.kinds.State.TheVariants.{New, Unchanged, Updated, Absent}
use Rattle.sarif_model.specs.Level.{level_name}
use Rattle.sarif_model.specs.State.{state_name}
use Rattle.sarif_findings.specs.declared.finding.Finding.{Finding}
use Rattle.sarif_shown.specs.Sentences.{counted}
use Rattle.sarif_page.specs.HtmlAttributes.{Attribute, word_after, attributes_from, attributes_in, link_attributes}
use Rattle.sarif_page.specs.HtmlFixed.{gone_line, index_begin, index_end}
use Rattle.sarif_page.specs.HtmlGroups.{Part, number_of, level_text, level_if, beside, numbers_text, has_both, pair_if, pairs_with, pairs_in, has_data, part_text, open_word, group_begin, group_heading, group_html, groups_from, most_groups, more_begin, more_of, more_groups, list_html, section_begin, section_middle, section_of, section_if}
use Rattle.sarif_page.specs.HtmlIndex.{group_link, first_link, index_front, name_text, index_middle, index_row, index_rows, more_rules, index_of, index_html}
use Rattle.sarif_page.specs.HtmlLaws.{quotes_in}
use Rattle.sarif_page.specs.HtmlRow.{path_text, file_text}
use Rattle.sarif_page.specs.HtmlRows.{Group, most_grouped, groups_of, grouped_rows}
use Rattle.sarif_page.specs.HtmlRules.{Rule, is_alike}
use Rattle.sarif_page.specs.ListAttributes.{has_attribute, group_attributes, groups_attributes, more_attributes, list_attributes, first_attributes, index_row_attributes, index_attributes, heading_attributes, section_attributes}
use Rattle.sarif_page.proofs.AttributesRead.{Moves, Reads, then_moves, then_reads, reads_to, outside, within, quote_end, linked_reads, rows_reads}
use Rattle.sarif_page.proofs.TagsCounted.{escaped_none, broken_marks, level_none, state_none}

-- ---- strings without quotes

pub record Silent (text : List ℕ) : Type 0 where
  pub silent : quotes_in text ≡ 0

pub quiet : (text : List ℕ) → quotes_in text ≡ 0 → Silent text
quiet text h = record { silent = h }

pub none : Silent []
none = quiet [] refl

pub both : {a b : List ℕ} → Silent a → Silent b → Silent (a ++ b)
both {a} {b} first second = record { silent = sum_by-append (λ c. cond (c == 34) 1 0) a b ∙ ap₂ (λ x y. x + y) first.silent second.silent }

pub either : (t : Bool) {a b : List ℕ} → Silent a → Silent b → Silent (if t then a else b)
either true first second = first
either false first second = second

glyph_by : (t : Bool) (d : ℕ) → ((if t then 48 + d else (if false then 55 + d else 87 + d)) == 34) ≡ false
glyph_by true d = grind (arith, nat_tests)
glyph_by false d = grind (arith, nat_tests)

glyph_quiet : (d : ℕ) (bs : List ℕ) → quotes_in bs ≡ 0 → quotes_in (digit_glyph false d ∷ bs) ≡ 0
glyph_quiet d bs h =
    sum_by-cons (λ c. cond (c == 34) 1 0) (digit_glyph false d) bs
    ∙ ap₂ (λ x y. x + y) (ap (λ t. cond {A = ℕ} t 1 0) (glyph_by (nat_lt d 10) d)) h

digits_by : (t : Bool) (k n : ℕ) (bs : List ℕ) → quotes_in (digit_glyph false (n % 10) ∷ bs) ≡ 0
    → quotes_in (digits_onto k 10 false (n / 10) (digit_glyph false (n % 10) ∷ bs)) ≡ 0
    → quotes_in (if t then digit_glyph false (n % 10) ∷ bs else digits_onto k 10 false (n / 10) (digit_glyph false (n % 10) ∷ bs)) ≡ 0
digits_by true k n bs last more = last
digits_by false k n bs last more = more

digits_quiet : (k n : ℕ) (bs : List ℕ) → quotes_in bs ≡ 0 → quotes_in (digits_onto k 10 false n bs) ≡ 0
digits_quiet zero n bs h = h
digits_quiet (suc k) n bs h =
    let one = glyph_quiet (n % 10) bs h in
    digits_by (n / 10 == 0) k n bs one (digits_quiet k (n / 10) (digit_glyph false (n % 10) ∷ bs) one)

pub number_quiet : (n : ℕ) → Silent (decimal n)
unfolding digits
number_quiet n = quiet (decimal n) (digits_quiet 64 n [] refl)

pub counted_quiet : (n : ℕ) {one more : List ℕ} → Silent one → Silent more → Silent (counted n one more)
counted_quiet n one more = both (number_quiet n) (either (n == 1) one more)

level_quiet : (level : Level) (n : ℕ) → Silent (level_text level n)
level_quiet Error n = counted_quiet n (quiet (codes " error") refl) (quiet (codes " errors") refl)
level_quiet Warning n = counted_quiet n (quiet (codes " warning") refl) (quiet (codes " warnings") refl)
level_quiet Note n = counted_quiet n (quiet (codes " note") refl) (quiet (codes " notes") refl)
level_quiet NoLevel n = counted_quiet n (quiet (codes " of level none") refl) (quiet (codes " of level none") refl)

if_quiet : (level : Level) (n : ℕ) → Silent (level_if level n)
if_quiet level n = either (n == 0) none (level_quiet level n)

beside_by : (a b : List ℕ) → Silent a → Silent b → Silent (beside a b)
beside_by [] b first second = second
beside_by (x ∷ xs) [] first second = first
beside_by (x ∷ xs) (y ∷ ys) first second = both first (both (quiet (codes ", ") refl) second)

beside_quiet : {a b : List ℕ} → Silent a → Silent b → Silent (beside a b)
beside_quiet {a} {b} first second = beside_by a b first second

numbers_quiet : (rows : List Finding) → Silent (numbers_text rows)
unfolding numbers_text
numbers_quiet rows =
    beside_quiet
    (beside_quiet (beside_quiet (if_quiet Error (number_of Error rows)) (if_quiet Warning (number_of Warning rows))) (if_quiet Note (number_of Note rows)))
    (if_quiet NoLevel (number_of NoLevel rows))

pub level_named : (level : Level) → Silent (level_name level)
level_named level = quiet (level_name level) (level_none level).quoted

pub state_named : (state : State) → Silent (state_name state)
state_named state = quiet (state_name state) (state_none state).quoted

pair_quiet : (rows : List Finding) (level : Level) (state : State) → Silent (pair_if rows level state)
pair_quiet rows level state =
    either (has_both level state rows) (both (quiet (codes " ") refl) (both (level_named level) (both (quiet (codes "-") refl) (state_named state)))) none

pairs_quiet : (rows : List Finding) (level : Level) → Silent (pairs_with rows level)
unfolding pairs_with
pairs_quiet rows level =
    both (pair_quiet rows level New) (both (pair_quiet rows level Unchanged) (both (pair_quiet rows level Updated) (pair_quiet rows level Absent)))

has_quiet : (rows : List Finding) → Silent (pairs_in rows)
unfolding pairs_in
has_quiet rows = both (pairs_quiet rows Error) (both (pairs_quiet rows Warning) (both (pairs_quiet rows Note) (pairs_quiet rows NoLevel)))

file_quiet : (rows : List Finding) → Silent (file_text rows)
file_quiet [] = none
file_quiet (f ∷ fs) = by f.path where
  by : (path : Option (List ℕ)) → Silent (path_text path)
  by None = quiet (codes "No path") refl
  by (Some path) = quiet (path_text (Some path)) (broken_marks path).quoted

part_quiet : (first last all : ℕ) → Silent (part_text first last all)
part_quiet first last all =
    either (nat_lt most_grouped all)
    (both (quiet (codes ", ") refl)
    (both (either (first == last) (number_quiet first) (both (number_quiet first) (both (quiet (codes " to ") refl) (number_quiet last))))
    (both (quiet (codes " of ") refl) (number_quiet all)))) none

open_quiet : (room : ℕ) → Silent (open_word room)
open_quiet room = either (room == 0) none (quiet (codes " open") refl)

-- ---- reading

pub after_silent : {a b : List ℕ} {found : List Attribute} → Silent a → Reads b found → Reads (a ++ b) found
after_silent {a} quiet reads = then_reads (outside a quiet.silent) reads

pub then_silent : {a b : List ℕ} {found : List Attribute} → Reads a found → Silent b → Reads (a ++ b) found
then_silent {a} {b} {found} reads quiet = subst (Reads (a ++ b)) (append-nil found) (then_reads reads (outside b quiet.silent))

pub either_reads : (t : Bool) {a b : List ℕ} {first second : List Attribute} → Reads a first → Reads b second
    → Reads (if t then a else b) (if t then first else second)
either_reads true one two = one
either_reads false one two = two

-- an attribute with this value, after others: what is before the value, and what ends it
pub attribute_after : {rest : List ℕ} {found : List Attribute} (others : List Attribute) (front close name begun value after : List ℕ)
    → ((word : List ℕ) → Moves front word None others name (Some begun))
    → ((word whole : List ℕ) → Moves close word (Some whole) ((word, whole) ∷ []) after None)
    → Silent value → Reads rest found → Reads (front ++ (value ++ (close ++ rest))) (others ++ ((name, begun ++ value) ∷ found))
attribute_after others front close name begun value after starts ends quiet later = record {
  reads = λ word. let rest = later.reads after in (
    rest.0,
    then_moves (starts word) (then_moves (within value name begun quiet.silent) (then_moves (ends name (begun ++ value)) rest.1)),
  );
}

pub attribute : {rest : List ℕ} {found : List Attribute} (front close name begun value after : List ℕ)
    → ((word : List ℕ) → Moves front word None [] name (Some begun))
    → ((word whole : List ℕ) → Moves close word (Some whole) ((word, whole) ∷ []) after None)
    → Silent value → Reads rest found → Reads (front ++ (value ++ (close ++ rest))) ((name, begun ++ value) ∷ found)
attribute front close name begun value after starts ends quiet later =
    attribute_after [] front close name begun value after starts ends quiet later

-- whether a string ends within quotes
abbrev pub ends_open : Bool → List ℕ → Bool
ends_open within_quotes [] = within_quotes
ends_open within_quotes (b ∷ bs) = ends_open (if b == 34 then not within_quotes else within_quotes) bs

abbrev is_open : Option (List ℕ) → Bool
is_open None = false
is_open (Some value) = true

-- what a string is read as doesn't depend on what follows it, and it ends outside of an attribute
abbrev Closes : List ℕ → List ℕ → Option (List ℕ) → Type 0
Closes text word value =
    (word' : List ℕ) × ((rest : List ℕ)
    → attributes_from word value (text ++ rest) ≡ attributes_from word value text ++ attributes_from word' None rest)

outside_by : (t : Bool) (b : ℕ) (bs word : List ℕ) → (ends_open true bs ≡ false → Closes bs word (Some []))
    → (ends_open false bs ≡ false → Closes bs (word_after word b) None) → ends_open (if t then true else false) bs ≡ false
    → (word' : List ℕ) × ((rest : List ℕ)
    → (if t then attributes_from word (Some []) (bs ++ rest) else attributes_from (word_after word b) None (bs ++ rest))
    ≡ (if t then attributes_from word (Some []) bs else attributes_from (word_after word b) None bs) ++ attributes_from word' None rest)
outside_by true b bs word one two h = one h
outside_by false b bs word one two h = two h

within_by : (t : Bool) (b : ℕ) (bs word value : List ℕ) → (ends_open false bs ≡ false → Closes bs [] None)
    → (ends_open true bs ≡ false → Closes bs word (Some (value ++ b ∷ []))) → ends_open (if t then false else true) bs ≡ false
    → (word' : List ℕ) × ((rest : List ℕ)
    → (if t then (word, value) ∷ attributes_from [] None (bs ++ rest) else attributes_from word (Some (value ++ b ∷ [])) (bs ++ rest))
    ≡ (if t then (word, value) ∷ attributes_from [] None bs else attributes_from word (Some (value ++ b ∷ [])) bs) ++ attributes_from word' None rest)
within_by true b bs word value one two h = let later = one h in (later.0, λ rest. ap (λ l. (word, value) ∷ l) (later.1 rest))
within_by false b bs word value one two h = two h

closes : (text word : List ℕ) (value : Option (List ℕ)) → ends_open (is_open value) text ≡ false → Closes text word value
closes [] word None h = (word, λ rest. refl)
closes [] word (Some value) h = absurd (true≢false h)
closes (b ∷ bs) word None h = outside_by (b == 34) b bs word (closes bs word (Some [])) (closes bs (word_after word b) None) h
closes (b ∷ bs) word (Some value) h =
    within_by (b == 34) b bs word value (closes bs [] None) (closes bs word (Some (value ++ b ∷ []))) h

tag_reads : (text : List ℕ) → ends_open false text ≡ false → Reads (60 ∷ text) (attributes_in (60 ∷ text))
tag_reads text h = let later = closes text [] None h in record { reads = λ word. (later.0, record { moves = later.1 }) }

-- a string that begins with a tag, read by itself
pub fixed_reads : (text : List ℕ) → text ≡ 60 ∷ drop 1 text → ends_open false (drop 1 text) ≡ false → Reads text (attributes_in text)
fixed_reads text e h = subst (λ t. Reads t (attributes_in t)) (sym e) (tag_reads (drop 1 text) h)

-- ---- the groups

has_reads : (rows : List Finding) → Reads (has_data rows) (has_attribute rows ∷ [])
has_reads rows = reads_to [] (λ word. then_moves (begins word)
    (then_moves (within (pairs_in rows) (codes "data-has=") [] (has_quiet rows).silent) (quote_end (codes "data-has=") (pairs_in rows))))
  where
    begins : (word : List ℕ) → Moves (codes " data-has=\"") word None [] (codes "data-has=") (Some [])
    begins word = record { moves = λ rest. refl }

begin_reads : (room number : ℕ) (rows : List Finding)
    → Reads (group_begin room number rows) ((codes "id=", codes "f" ++ decimal number) ∷ (has_attribute rows ∷ []))
begin_reads room number rows =
    attribute (codes "<details id=\"f") (codes "\"") (codes "id=") (codes "f") (decimal number) []
    (λ word. record { moves = λ rest. refl }) (λ word whole. record { moves = λ rest. refl }) (number_quiet number)
    (after_silent (open_quiet room) (then_silent (has_reads rows) (quiet (codes "><summary><h3>") refl)))

heading_quiet : (g : Group) → Silent (group_heading g)
unfolding group_heading
heading_quiet g =
    both (file_quiet g.rows) (both (part_quiet g.first g.last g.all) (both (quiet (codes "</h3> <span>") refl)
    (both (numbers_quiet g.rows) (quiet (codes "</span></summary>\n<ul>\n") refl))))

group_reads : (link : Option (List ℕ)) (room number : ℕ) (g : Group) → Reads (group_html link room number g) (group_attributes link number g.rows)
unfolding group_html
group_reads link room number g =
    then_reads (begin_reads room number g.rows) (after_silent (heading_quiet g)
    (then_silent (rows_reads link g.rows) (quiet (codes "</ul>\n</details>\n") refl)))

groups_reads : (link : Option (List ℕ)) (room number : ℕ) (groups : List Group)
    → Reads (groups_from link room number groups) (groups_attributes link number groups)
groups_reads link room number [] = outside [] refl
groups_reads link room number (g ∷ gs) =
    then_reads (group_reads link room number g) (groups_reads link (room - length g.rows) (number + 1) gs)

more_begin_reads : (rows : List Finding) → Reads (more_begin rows) (has_attribute rows ∷ [])
more_begin_reads rows =
    after_silent (quiet (codes "<details") refl) (then_silent (has_reads rows) (both (quiet (codes "><summary>") refl)
    (both (counted_quiet (length rows) (quiet (codes " more result") refl) (quiet (codes " more results") refl))
    (both (quiet (codes " <span>") refl) (both (numbers_quiet rows) (quiet (codes "</span></summary>\n") refl))))))

more_reads : (link : Option (List ℕ)) (number : ℕ) (groups : List Group) → Reads (more_groups link number groups) (more_attributes link number groups)
unfolding more_of
more_reads link number [] = outside [] refl
more_reads link number (g ∷ gs) =
    then_reads (more_begin_reads (grouped_rows (g ∷ gs)))
    (then_silent (groups_reads link 0 number (g ∷ gs)) (quiet (codes "</details>\n") refl))

list_reads : (link : Option (List ℕ)) (room number : ℕ) (groups : List Group) → Reads (list_html link room number groups) (list_attributes link number groups)
unfolding list_html
list_reads link room number groups =
    then_reads (groups_reads link room number (take most_groups groups)) (more_reads link (number + most_groups) (drop most_groups groups))

-- ---- the index of rules

group_link_reads : (number : ℕ) (rows : List Finding) → Reads (group_link number rows) ((codes "href=", codes "#f" ++ decimal number) ∷ [])
group_link_reads number rows =
    attribute (codes "<a href=\"#f") (codes "\"><code>") (codes "href=") (codes "#f") (decimal number) (codes "code>")
    (λ word. record { moves = λ rest. refl }) (λ word whole. record { moves = λ rest. refl }) (number_quiet number)
    (after_silent (file_quiet rows) (outside (codes "</code></a>") refl))

first_reads : (f : Finding) (number : ℕ) (groups : List Group) → Reads (first_link f number groups) (first_attributes f number groups)
first_reads f number [] = outside [] refl
first_reads f number (g ∷ gs) =
    either_reads (list_any (is_alike f) g.rows) (group_link_reads number g.rows) (first_reads f (number + 1) gs)

scope_reads : Reads (codes "</td><th scope=\"row\">") ((codes "scope=", codes "row") ∷ [])
scope_reads = reads_to (codes ">") (λ word. record { moves = λ rest. refl })

front_reads : (r : Rule) → Reads (index_front r) ((codes "scope=", codes "row") ∷ link_attributes r.first.help r.first.rule_name)
unfolding index_front
front_reads r =
    after_silent (quiet (codes "<tr><td>") refl) (after_silent (number_quiet r.number)
    (then_reads scope_reads (then_silent (linked_reads r.first.rule r.first.help r.first.rule_name) (quiet (codes "</th><td>") refl))))

middle_quiet : (f : Finding) → Silent (index_middle f)
unfolding index_middle
middle_quiet f =
    both (by f.rule_name) (both (quiet (codes "</td><td>") refl)
    (both (quiet _ (escaped_none f.tool).quoted) (quiet (codes "</td><td>") refl)))
  where
    by : (name : Option (List ℕ)) → Silent (name_text name)
    by None = none
    by (Some name) = quiet (name_text (Some name)) (escaped_none name).quoted

index_row_reads : (number : ℕ) (groups : List Group) (r : Rule) → Reads (index_row number groups r) (index_row_attributes number groups r)
unfolding index_row
index_row_reads number groups r =
    then_reads (front_reads r) (after_silent (middle_quiet r.first)
    (then_silent (first_reads r.first number groups) (quiet (codes "</td></tr>\n") refl)))

index_rows_reads : (number : ℕ) (groups : List Group) (rules : List Rule)
    → Reads (index_rows number groups rules) (flat_map (index_row_attributes number groups) rules)
index_rows_reads number groups [] = outside [] refl
index_rows_reads number groups (r ∷ rs) = then_reads (index_row_reads number groups r) (index_rows_reads number groups rs)

index_begin_reads : Reads index_begin (attributes_in index_begin)
unfolding index_begin
index_begin_reads = fixed_reads index_begin refl refl

index_end_quiet : Silent index_end
unfolding index_end
index_end_quiet = quiet index_end refl

more_rules_quiet : (n : ℕ) → Silent (more_rules n)
more_rules_quiet n =
    either (n == 0) none (both (quiet (codes "<p>") refl)
    (both (counted_quiet n (quiet (codes " more rule") refl) (quiet (codes " more rules") refl)) (quiet (codes "</p>\n") refl)))

rules_class : Reads (codes "<details class=\"rules\"><summary>") ((codes "class=", codes "rules") ∷ [])
rules_class = reads_to (codes "summary>") (λ word. record { moves = λ rest. refl })

index_reads : (number : ℕ) (groups : List Group) (rules : List Rule) (all : ℕ)
    → Reads (index_html number groups rules all) (index_attributes number groups rules)
unfolding index_of
index_reads number groups [] all = outside [] refl
index_reads number groups (r ∷ rs) all =
    then_reads rules_class (after_silent (counted_quiet all (quiet (codes " rule") refl) (quiet (codes " rules") refl))
    (then_reads index_begin_reads (then_silent (index_rows_reads number groups (r ∷ rs))
    (both index_end_quiet (both (more_rules_quiet (all - length (r ∷ rs))) (quiet (codes "</details>\n") refl))))))

-- ---- the section of a list

gone_reads : Reads gone_line ((codes "class=", codes "gone") ∷ [])
unfolding gone_line
gone_reads = reads_to (codes "/p>\n") (λ word. record { moves = λ rest. refl })

heading_reads : (name heading : List ℕ) (rows : List Finding) → Silent name → Silent heading
    → Reads (section_begin name heading rows) (heading_attributes name rows)
heading_reads name heading rows named headed =
    attribute (codes "<section aria-labelledby=\"") (codes "\"") (codes "aria-labelledby=") [] name []
    (λ word. record { moves = λ rest. refl }) (λ word whole. record { moves = λ rest. refl }) named
    (then_reads (has_reads rows)
    (attribute (codes ">\n<h2 id=\"") (codes "\">") (codes "id=") [] name (codes ">")
    (λ word. record { moves = λ rest. refl }) (λ word whole. record { moves = λ rest. refl }) named
    (after_silent headed (after_silent (quiet (codes "</h2>\n") refl) gone_reads))))

part_reads : (part : Part) (rows : List Finding) → Silent part.name → Silent part.heading
    → Reads (section_of part rows)
    (heading_attributes part.name rows ++ (index_attributes part.number (groups_of rows) part.rules
    ++ list_attributes part.link part.number (groups_of rows)))
unfolding section_of section_middle
part_reads part rows named headed =
    then_reads (heading_reads part.name part.heading rows named headed)
    (then_silent (then_reads (index_reads part.number (groups_of rows) part.rules part.all_rules) (list_reads part.link part.room part.number (groups_of rows)))
    (quiet (codes "</section>\n") refl))

pub section_reads : (part : Part) (rows : List Finding) → Silent part.name → Silent part.heading
    → Reads (section_if part rows) (section_attributes part rows)
unfolding section_if
section_reads part rows named headed = either_reads (length rows == 0) (outside [] refl) (part_reads part rows named headed)
