-- Addresses in rows of Markdown: their characters, and how long they are.
use Rattle.std.proofs.Common.{◌≡◌, ◌<◌, ◌≤◌, ◌+◌, ◌*◌, ◌^◌, ◌%◌, ◌++◌, ◌==◌, ◌⊎◌, inl, inr, ⊎_elim, ℕ, zero, suc, Bool, true, false, not, ◌&&◌, List, [], ◌∷◌, Option, Some, None, IfSome, chars, codes, decimal, drop, encode_utf8, flat_map, length, length-append, nat_eq, nat_le, refl, sym, ap, ◌∙◌, subst, if◌then◌else◌, arith}
use Rattle.std.specs.Prelude.{encode_utf8_all, is_some, option_and_then, unwrap_or}
use Rattle.std.specs.List.{All, count_by, list_all, onto_first, slice_split, starts_with}
use Rattle.std.specs.Option.{option_map_or, option_or}
use Rattle.std.proofs.lemmas.Bool.{and_from, and_parts, eqb-true, false_from_ne_true, leb-true, not-true, true≢false}
use Rattle.std.proofs.lemmas.Bool.Decides.{nat_tests}
use Rattle.std.proofs.lemmas.Fmt.{decimal_by_steps, length-decimal-le}
use Rattle.std.proofs.lemmas.Grind.{flat_map-append}
use Rattle.std.proofs.lemmas.List.Elements.{All-head, All-tail}
use Rattle.std.proofs.lemmas.List.Folds.{list_all-append}
use Rattle.std.proofs.lemmas.List.Sums.{sum_by-cons}
use Rattle.std.proofs.lemmas.Str.{encode_ascii, len_utf8_bounds, length-encode}
use Rattle.percent_encoding.specs.Percent.{percent_encode_byte}
use Rattle.percent_encoding.proofs.PercentLemmas.{All-percent_encode_byte, IsEscapeByte}
use Rattle.sarif_links.specs.Address.{after_scheme, begins_with_host, has_two_signs, is_address_sign, most_of_address}
use Rattle.sarif_links.specs.Template.{after, after_line, after_path, are_parts, encoded, encoded_byte, filled, filled_part, has_slash_next, is_linkable, is_part, is_path_part, is_plain, is_start, is_template, parts_of, place_address}
use Rattle.sarif_findings.specs.declared.finding.Finding.{Finding}
use Rattle.sarif_findings.proofs.CharsBack.{chars_back}
use Rattle.sarif_shown.specs.declared.escaping.Escaping.TheVariants.{Page}
use Rattle.sarif_shown.specs.Escaped.{escaped, escaped_char, page_char}
use Rattle.sarif_shown.specs.Linked.{place_link}
use Rattle.sarif_links.proofs.AddressSigns.{parted, signs_by}
use Rattle.sarif_links.proofs.Placed.{has_parts, place_signs}
use Rattle.sarif_findings.proofs.ToldFindings.{IsPath, IsShown}
use Rattle.sarif_findings.specs.Shown.{kept, most_characters, shown_chars}
use Rattle.sarif_reports.specs.MarkdownLaws.{AreLinks}

-- ---- characters

pub sign_small : (c : ℕ) → is_address_sign c ≡ true → c < 128
sign_small c h = grind (arith, nat_tests, h)

sign_bytes : (cs : List ℕ) → list_all is_address_sign cs ≡ true → encode_utf8_all cs ≡ cs
sign_bytes [] h = refl
sign_bytes (c ∷ cs) h =
    let parts = and_parts (is_address_sign c) (list_all is_address_sign cs) h in
    ap (λ (first : List ℕ). first ++ encode_utf8_all cs) (encode_ascii c (sign_small c parts.0)) ∙ ap (λ (rest : List ℕ). c ∷ rest) (sign_bytes cs parts.1)

-- an address in a row, character by character
pub address_chars : (address : List ℕ) → list_all is_address_sign address ≡ true → escaped Page address ≡ flat_map page_char address
unfolding escaped
address_chars address h =
    ap (λ (bytes : List ℕ). flat_map (escaped_char Page) (chars bytes)) (sym (sign_bytes address h)) ∙ ap (flat_map page_char) (chars_back address)

-- ---- lengths

-- the number of bytes of these characters, escaped
unfoldable pub weight : List ℕ → ℕ
weight cs = length (flat_map page_char cs)

weight-append : (xs ys : List ℕ) → weight (xs ++ ys) ≡ weight xs + weight ys
unfolding weight
weight-append xs ys = ap length (flat_map-append page_char xs ys) ∙ length-append (flat_map page_char xs) (flat_map page_char ys)

char_by : (a b d e f : Bool) (x : List ℕ) → e ≡ false → length x ≤ 5
    → length (if a then codes "&amp;" else (if b then codes "&lt;" else (if d then codes "&gt;" else (if e then codes "&quot;" else (if f then codes "&#39;" else x))))) ≤ 5
char_by true b d e f x h few = omega arith
char_by false true d e f x h few = omega arith
char_by false false true e f x h few = omega arith
char_by false false false true f x h few = absurd (true≢false h)
char_by false false false false true x h few = omega arith
char_by false false false false false x h few = few

not_quote : (c : ℕ) → is_address_sign c ≡ true → (c == 34) ≡ false
not_quote c h = grind (arith, nat_tests, h)

char_few : (c : ℕ) → is_address_sign c ≡ true → length (page_char c) ≤ 5
char_few c h =
    let one : length (encode_utf8 c) ≤ 5 = subst (λ (bytes : List ℕ). length bytes ≤ 5) (sym (encode_ascii c (sign_small c h))) (omega arith) in
    char_by (c == 38) (c == 60) (c == 62) (c == 34) (c == 39) (encode_utf8 c) (not_quote c h) one

pub weight_few : (cs : List ℕ) → list_all is_address_sign cs ≡ true → weight cs ≤ 5 * length cs
unfolding weight
weight_few [] h = omega arith
weight_few (c ∷ cs) h =
    let parts = and_parts (is_address_sign c) (list_all is_address_sign cs) h in
    let one = char_few c parts.0 in
    let rest = weight_few cs parts.1 in
    let whole = length-append (page_char c) (flat_map page_char cs) in
    omega (arith, one, rest, whole)

-- characters of an address that a row has as they are
is_bare : ℕ → Bool
is_bare c = is_address_sign c && not (c == 38)

bare_by : (a b d e f : Bool) (x : List ℕ) → a ≡ false → b ≡ false → d ≡ false → e ≡ false → f ≡ false → length x ≤ 1
    → length (if a then codes "&amp;" else (if b then codes "&lt;" else (if d then codes "&gt;" else (if e then codes "&quot;" else (if f then codes "&#39;" else x))))) ≤ 1
bare_by true b d e f x p q r s t few = absurd (true≢false p)
bare_by false true d e f x p q r s t few = absurd (true≢false q)
bare_by false false true e f x p q r s t few = absurd (true≢false r)
bare_by false false false true f x p q r s t few = absurd (true≢false s)
bare_by false false false false true x p q r s t few = absurd (true≢false t)
bare_by false false false false false x p q r s t few = few

other : (c k : ℕ) → is_address_sign c ≡ true → is_address_sign k ≡ false → (c == k) ≡ false
other c k h apart = false_from_ne_true (c == k) (λ same. true≢false (sym h ∙ ap is_address_sign (eqb-true c k same) ∙ apart))

bare_few : (c : ℕ) → is_bare c ≡ true → length (page_char c) ≤ 1
unfolding is_bare
bare_few c h =
    let parts = and_parts (is_address_sign c) (not (c == 38)) h in
    let one : length (encode_utf8 c) ≤ 1 = subst (λ (bytes : List ℕ). length bytes ≤ 1) (sym (encode_ascii c (sign_small c parts.0))) (omega arith) in
    bare_by (c == 38) (c == 60) (c == 62) (c == 34) (c == 39) (encode_utf8 c) (not-true (c == 38) parts.1) (other c 60 parts.0 refl) (other c 62 parts.0 refl)
    (other c 34 parts.0 refl) (other c 39 parts.0 refl) one

bares_few : (cs : List ℕ) → list_all is_bare cs ≡ true → weight cs ≤ length cs
unfolding weight
bares_few [] h = omega arith
bares_few (c ∷ cs) h =
    let parts = and_parts (is_bare c) (list_all is_bare cs) h in
    let one = bare_few c parts.0 in
    let rest = bares_few cs parts.1 in
    let whole = length-append (page_char c) (flat_map page_char cs) in
    omega (arith, one, rest, whole)

bare_plain : (b : ℕ) → is_plain b ≡ true → is_bare b ≡ true
unfolding is_bare
bare_plain b h = grind (arith, nat_tests, h)

bare_escape : (b : ℕ) → IsEscapeByte b → is_bare b ≡ true
unfolding is_bare
bare_escape b h = grind (arith, nat_tests, h)

bare_escapes : (bs : List ℕ) → All IsEscapeByte bs → list_all is_bare bs ≡ true
bare_escapes [] all = refl
bare_escapes (b ∷ bs) all =
    and_from (is_bare b) (list_all is_bare bs) (bare_escape b (All-head IsEscapeByte b bs all)) (bare_escapes bs (All-tail IsEscapeByte b bs all))

byte_weight : (plain : Bool) (b : ℕ) → is_plain b ≡ plain → weight (if plain then b ∷ [] else percent_encode_byte b) ≤ 3
unfolding percent_encode_byte
byte_weight true b h = let few = bares_few (b ∷ []) (and_from (is_bare b) true (bare_plain b h) refl) in omega (arith, few)
byte_weight false b h = bares_few (percent_encode_byte b) (bare_escapes (percent_encode_byte b) (All-percent_encode_byte b))

path_weight : (path : List ℕ) → weight (encoded path) ≤ 3 * length path
unfolding weight
path_weight [] = omega arith
path_weight (b ∷ path) =
    let one = byte_weight (is_plain b) b refl in
    let rest = path_weight path in
    let whole = weight-append (encoded_byte b) (encoded path) in
    omega (arith, one, rest, whole)

digit_bare : (d : ℕ) → d < 10 → is_bare (48 + d) ≡ true
unfolding is_bare
digit_bare d small = grind (arith, nat_tests, small)

bares_more : (ds : List ℕ) (d : ℕ) → list_all is_bare ds ≡ true → is_bare d ≡ true → list_all is_bare (ds ++ d ∷ []) ≡ true
bares_more ds d h e = list_all-append is_bare ds (d ∷ []) ∙ and_from (list_all is_bare ds) (is_bare d && true) h (and_from (is_bare d) true e refl)

line_weight : (n : ℕ) → n < 2 ^ 64 → weight (decimal n) ≤ 20
line_weight n small =
    let bare : list_all is_bare (decimal n) ≡ true =
    decimal_by_steps (λ _ ds. list_all is_bare ds ≡ true)
    (λ k low. and_from (is_bare (48 + k)) true (digit_bare k low) refl)
    (λ k ds _ h. bares_more ds (48 + k % 10) h (digit_bare (k % 10) (omega arith))) n small in
    let few = bares_few (decimal n) bare in
    let long = length-decimal-le 20 n (omega arith) (omega (arith, small)) small in
    omega (arith, few, long)

-- ---- a filled template

after_by : (begins : Bool) (beginning part rest : List ℕ) → starts_with nat_eq part beginning ≡ begins
    → (if begins then Some (drop (length beginning) part) else None) ≡ Some rest → length part ≡ length beginning + length rest
after_by true beginning part rest is e =
    let same : drop (length beginning) part ≡ rest = cc in
    ap length (parted part beginning is) ∙ length-append beginning (drop (length beginning) part) ∙ ap (λ n. length beginning + n) (ap length same)
after_by false beginning part rest is e = absurd (cc)

after_length : (beginning part rest : List ℕ) → after beginning part ≡ Some rest → length part ≡ length beginning + length rest
after_length beginning part rest e = after_by (starts_with nat_eq part beginning) beginning part rest refl e

-- how long these are together
total : List (List ℕ) → ℕ
total [] = 0
total (xs ∷ rest) = length xs + total rest

if_path : Bool → List ℕ → ℕ
if_path true path = 3 * length path
if_path false path = 0

part_weight : (path : List ℕ) (n : ℕ) (o l : Option (List ℕ)) (part : List ℕ) → n < 2 ^ 64 → after_path part ≡ o → after_line part ≡ l
    → option_map_or (list_all is_address_sign) (option_or o l) false ≡ true
    → weight (option_map_or (λ rest. encoded path ++ rest) o (option_map_or (λ rest. decimal n ++ rest) l [])) ≤ 5 * length part + if_path (is_some o) path
unfolding if_path
part_weight path n (Some rest) l part small is il h =
    let long = after_length (codes "path}") part rest is in
    let first = path_weight path in
    let more = weight_few rest h in
    let whole = weight-append (encoded path) rest in
    omega (arith, long, first, more, whole)
part_weight path n None (Some rest) part small is il h =
    let long = after_length (codes "line}") part rest il in
    let first = line_weight n small in
    let more = weight_few rest h in
    let whole = weight-append (decimal n) rest in
    omega (arith, long, first, more, whole)
part_weight path n None None part small is il h = absurd (true≢false (sym h))

-- the first part of a template
start_signs : (start : List ℕ) → is_start start ≡ true → list_all is_address_sign start ≡ true
start_signs start h =
    signs_by (starts_with nat_eq start (codes "https://")) (starts_with nat_eq start (codes "http://")) start refl refl
    (and_parts (begins_with_host (after_scheme start)) (has_slash_next (after_scheme start)) h).0

count_none : (first : Bool) (others : ℕ) → (if first then 1 else 0) + others ≡ 0 → (first ≡ false) × (others ≡ 0)
count_none true others h = absurd (omega (arith, h))
count_none false others h = (refl, omega (arith, h))

count_first : (part : List ℕ) (parts : List (List ℕ))
    → count_by is_path_part (part ∷ parts) ≡ (if is_path_part part then 1 else 0) + count_by is_path_part parts
count_first part parts = sum_by-cons (λ x. if is_path_part x then 1 else 0) part parts

-- parts without the path, and parts with it once
no_path_weight : (path : List ℕ) (n : ℕ) (parts : List (List ℕ)) → n < 2 ^ 64 → list_all is_part parts ≡ true → count_by is_path_part parts ≡ 0
    → weight (flat_map (filled_part path n) parts) ≤ 5 * total parts
unfolding weight if_path total
no_path_weight path n [] small all none = omega arith
no_path_weight path n (part ∷ parts) small all none =
    let halves = and_parts (is_part part) (list_all is_part parts) all in
    let none_here = count_none (is_path_part part) (count_by is_path_part parts) (sym (count_first part parts) ∙ none) in
    let first = part_weight path n (after_path part) (after_line part) part small refl refl halves.0 in
    let free = ap (λ (b : Bool). if_path b path) none_here.0 in
    let rest = no_path_weight path n parts small halves.1 none_here.1 in
    let whole = weight-append (filled_part path n part) (flat_map (filled_part path n) parts) in
    omega (arith, first, free, rest, whole)

one_by : (first : Bool) (others : ℕ) → (if first then 1 else 0) + others ≡ 1 → ((first ≡ true) × (others ≡ 0)) ⊎ ((first ≡ false) × (others ≡ 1))
one_by true others h = inl (refl, omega (arith, h))
one_by false others h = inr (refl, omega (arith, h))

parts_weight : (path : List ℕ) (n : ℕ) (parts : List (List ℕ)) → n < 2 ^ 64 → list_all is_part parts ≡ true → count_by is_path_part parts ≡ 1
    → weight (flat_map (filled_part path n) parts) ≤ 5 * total parts + 3 * length path
unfolding weight if_path total
parts_weight path n [] small all one = omega arith
parts_weight path n (part ∷ parts) small all one =
    let halves = and_parts (is_part part) (list_all is_part parts) all in
    let first = part_weight path n (after_path part) (after_line part) part small refl refl halves.0 in
    let whole = weight-append (filled_part path n part) (flat_map (filled_part path n) parts) in
    ⊎_elim
    (λ is.
    let taken = ap (λ (b : Bool). if_path b path) is.0 in
    let rest = no_path_weight path n parts small halves.1 is.1 in
    omega (arith, first, taken, rest, whole))
    (λ is.
    let free = ap (λ (b : Bool). if_path b path) is.0 in
    let rest = parts_weight path n parts small halves.1 is.1 in
    omega (arith, first, free, rest, whole))
    (one_by (is_path_part part) (count_by is_path_part parts) (sym (count_first part parts) ∙ one))

-- the parts of a string are no longer than it
onto_length : (b : ℕ) (parts : List (List ℕ)) → total (onto_first b parts) ≤ 1 + total parts
unfolding total
onto_length b [] = omega arith
onto_length b (part ∷ parts) = omega arith

split_by : (cut : Bool) (b : ℕ) (parts : List (List ℕ)) (n : ℕ) → total parts ≤ n → total (if cut then [] ∷ parts else onto_first b parts) ≤ n + 1
unfolding total
split_by true b parts n few = omega (arith, few)
split_by false b parts n few = let one = onto_length b parts in omega (arith, one, few)

split_length : (xs : List ℕ) → total (slice_split (λ b. b == 123) xs) ≤ length xs
unfolding total
split_length [] = omega arith
split_length (x ∷ xs) =
    let more = split_by (x == 123) x (slice_split (λ b. b == 123) xs) (length xs) (split_length xs) in omega (arith, more)

filled_weight : (path : List ℕ) (n : ℕ) (parts : List (List ℕ)) → n < 2 ^ 64 → are_parts parts ≡ true
    → weight (filled path n parts) ≤ 5 * total parts + 3 * length path
unfolding weight total
filled_weight path n [] small h = omega arith
filled_weight path n (start ∷ others) small h =
    let halves = and_parts (is_start start) (list_all is_part others && count_by is_path_part others == 1) h in
    let more = and_parts (list_all is_part others) (count_by is_path_part others == 1) halves.1 in
    let first = weight_few start (start_signs start halves.0) in
    let rest = parts_weight path n others small more.0 (eqb-true (count_by is_path_part others) 1 more.1) in
    let whole = weight-append start (flat_map (filled_part path n) others) in
    omega (arith, first, rest, whole)

-- ---- the address of a place

-- its characters are those of an address, and it isn't long
pub record IsAddressed (address : List ℕ) : Type 0 where
  pub signs : list_all is_address_sign address ≡ true
  pub few : weight address ≤ 17012

template_short : (template : List ℕ) → is_template template ≡ true → length template ≤ 1000
template_short template is =
    leb-true (length template) most_of_address
    (and_parts (nat_le (length template) most_of_address) (not (has_two_signs false template) && are_parts (parts_of template)) is).0

bytes_few : (cs : List ℕ) → length (encode_utf8_all cs) ≤ 4 * length cs
bytes_few [] = omega arith
bytes_few (c ∷ cs) =
    let one = length-encode c in
    let four = (len_utf8_bounds c).1 in
    let rest = bytes_few cs in
    let whole = length-append (encode_utf8 c) (encode_utf8_all cs) in
    omega (arith, one, four, rest, whole)

kept_few : (room : ℕ) (cs : List ℕ) → length (kept room cs) ≤ room + 1
unfolding kept
kept_few zero [] = omega arith
kept_few (suc room) [] = omega arith
kept_few zero (c ∷ cs) = omega arith
kept_few (suc room) (c ∷ cs) = let rest = kept_few room cs in omega (arith, rest)

shown_bytes : (text : List ℕ) → IsShown text → length text ≤ 4004
shown_bytes text is =
    let few : length (shown_chars is.0) ≤ 1001 = kept_few most_characters _ in
    let bytes = bytes_few (shown_chars is.0) in
    let same = ap length is.1 in
    omega (arith, few, bytes, same)

line_small : (line : Option ℕ) → IfSome line (λ n. n < 2 ^ 32) → unwrap_or line 1 < 2 ^ 32
line_small None h = omega arith
line_small (Some n) h = h

-- both facts about an address
both_facts : (o : Option (List ℕ)) → IfSome o (λ a. list_all is_address_sign a ≡ true) → IfSome o (λ a. weight a ≤ 17012) → IfSome o IsAddressed
both_facts None signs few = tt
both_facts (Some address) signs few = record { signs = signs; few = few }

chosen : (b : Bool) (x : List ℕ) → weight x ≤ 17012 → IfSome (if b then Some x else None) (λ a. weight a ≤ 17012)
chosen true x few = few
chosen false x few = tt

place_addressed : (template path : List ℕ) (line : Option ℕ) → is_template template ≡ true → IsShown path → IfSome line (λ n. n < 2 ^ 32)
    → IfSome (place_address template path line) IsAddressed
place_addressed template path line is shown small =
    let n = line_small line small in
    let long = filled_weight path (unwrap_or line 1) (parts_of template) (omega (arith, n)) (has_parts template is) in
    let parts = split_length template in
    let short = template_short template is in
    let bytes = shown_bytes path shown in
    both_facts (place_address template path line) (place_signs template path line is n)
    (chosen (is_linkable path) (filled path (unwrap_or line 1) (parts_of template)) (omega (arith, long, parts, short, bytes)))

exact_addressed : (exact : Bool) (template : List ℕ) (path : Option (List ℕ)) (line : Option ℕ) → is_template template ≡ true → IfSome path IsPath
    → IfSome line (λ n. n < 2 ^ 32)
    → IfSome (if exact then option_and_then (λ p. place_address template p line) path else None) IsAddressed
exact_addressed true template None line is told small = tt
exact_addressed true template (Some path) line is told small = place_addressed template path line is told.shown small
exact_addressed false template path line is told small = tt

pub link_addressed : (link : Option (List ℕ)) (f : Finding) → AreLinks link → IfSome f.path IsPath → IfSome f.line (λ n. n < 2 ^ 32)
    → IfSome (place_link link f) IsAddressed
link_addressed None f links path line = tt
link_addressed (Some template) f links path line = exact_addressed f.exact template f.path f.line links path line
