-- The addresses of places: their characters, and how they begin.
use Rattle.std.proofs.Common.{◌≡◌, ◌<◌, ◌^◌, ◌++◌, ◌%◌, ◌+◌, ◌==◌, ℕ, Bool, true, false, not, ◌&&◌, nat_eq, nat_le, List, [], ◌∷◌, Option, Some, None, IfSome, codes, decimal, drop, flat_map, length, refl, sym, ap, ◌∙◌, subst, if◌then◌else◌, arith, inl, inr}
use Rattle.std.specs.Prelude.{unwrap_or}
use Rattle.std.specs.List.{All, before_first, count_by, list_all, onto_first, slice_split, starts_with, take_while}
use Rattle.std.specs.Option.{option_map_or, option_or}
use Rattle.std.proofs.lemmas.Bool.{true≢false}
use Rattle.std.proofs.lemmas.Bool.Decides.{Decides-eqb, nat_tests}
use Rattle.std.proofs.lemmas.Fmt.{decimal_by_steps}
use Rattle.std.proofs.lemmas.List.Elements.{All-head, All-tail}
use Rattle.std.proofs.lemmas.List.Folds.{list_all-append}
use Rattle.std.proofs.lemmas.List.Sums.{take_while-cons}
use Rattle.std.proofs.lemmas.Slice.Eq.{starts_is}
use Rattle.percent_encoding.specs.Percent.{percent_encode_byte}
use Rattle.percent_encoding.proofs.PercentLemmas.{All-percent_encode_byte, IsEscapeByte}
use Rattle.sarif_links.specs.Address.{after_scheme, begins_with_host, has_two_signs, is_address_sign, most_of_address}
use Rattle.sarif_links.specs.Template.{after_line, after_path, are_parts, encoded, encoded_byte, filled, filled_part, has_slash_next, is_linkable, is_part, is_path_part, is_plain, is_start, is_template, parts_of, place_address}
use Rattle.sarif_links.proofs.AddressSigns.{both, joined, parted, signs_by}

-- ---- characters

within : (xs ys : List ℕ) → list_all is_address_sign xs ≡ true → list_all is_address_sign ys ≡ true → list_all is_address_sign (xs ++ ys) ≡ true
within xs ys h k = list_all-append is_address_sign xs ys ∙ joined (list_all is_address_sign xs) (list_all is_address_sign ys) h k

plain_sign : (b : ℕ) → is_plain b ≡ true → is_address_sign b ≡ true
plain_sign b h = grind (arith, nat_tests, h)

escape_sign : (b : ℕ) → IsEscapeByte b → is_address_sign b ≡ true
escape_sign b (inl e) = subst (λ (c : ℕ). is_address_sign c ≡ true) (sym e) refl
escape_sign b (inr (inl digit)) = grind (arith, nat_tests, digit)
escape_sign b (inr (inr letter)) = grind (arith, nat_tests, letter)

escape_signs : (bs : List ℕ) → All IsEscapeByte bs → list_all is_address_sign bs ≡ true
escape_signs [] all = refl
escape_signs (b ∷ bs) all =
    joined (is_address_sign b) (list_all is_address_sign bs) (escape_sign b (All-head IsEscapeByte b bs all)) (escape_signs bs (All-tail IsEscapeByte b bs all))

byte_by : (plain : Bool) (b : ℕ) → is_plain b ≡ plain → list_all is_address_sign (if plain then b ∷ [] else percent_encode_byte b) ≡ true
byte_by true b h = joined (is_address_sign b) true (plain_sign b h) refl
byte_by false b h = escape_signs (percent_encode_byte b) (All-percent_encode_byte b)

encoded_signs : (path : List ℕ) → list_all is_address_sign (encoded path) ≡ true
encoded_signs [] = refl
encoded_signs (b ∷ path) = within (encoded_byte b) (encoded path) (byte_by (is_plain b) b refl) (encoded_signs path)

digit_sign : (d : ℕ) → d < 10 → is_address_sign (48 + d) ≡ true
digit_sign d small = grind (arith, nat_tests, small)

decimal_signs : (n : ℕ) → n < 2 ^ 64 → list_all is_address_sign (decimal n) ≡ true
decimal_signs n small =
    decimal_by_steps (λ _ ds. list_all is_address_sign ds ≡ true)
    (λ d h. joined (is_address_sign (48 + d)) true (digit_sign d h) refl)
    (λ k ds h rest. within ds ((48 + k % 10) ∷ []) rest (joined (is_address_sign (48 + k % 10)) true (digit_sign (k % 10) (omega arith)) refl))
    n small

part_by : (path : List ℕ) (n : ℕ) (o l : Option (List ℕ)) → n < 2 ^ 64
    → option_map_or (list_all is_address_sign) (option_or o l) false ≡ true
    → list_all is_address_sign (option_map_or (λ rest. encoded path ++ rest) o (option_map_or (λ rest. decimal n ++ rest) l [])) ≡ true
part_by path n (Some rest) l small h = within (encoded path) rest (encoded_signs path) h
part_by path n None (Some rest) small h = within (decimal n) rest (decimal_signs n small) h
part_by path n None None small h = refl

parts_signs : (path : List ℕ) (n : ℕ) (parts : List (List ℕ)) → n < 2 ^ 64 → list_all is_part parts ≡ true
    → list_all is_address_sign (flat_map (filled_part path n) parts) ≡ true
parts_signs path n [] small h = refl
parts_signs path n (part ∷ parts) small h =
    let halves = both (is_part part) (list_all is_part parts) h in
    within (filled_part path n part) (flat_map (filled_part path n) parts) (part_by path n (after_path part) (after_line part) small halves.0)
    (parts_signs path n parts small halves.1)

-- the first part of a template
start_hosted : (start : List ℕ) → is_start start ≡ true → begins_with_host (after_scheme start) ≡ true
start_hosted start h = (both (begins_with_host (after_scheme start)) (has_slash_next (after_scheme start)) h).0

start_signs : (start : List ℕ) → is_start start ≡ true → list_all is_address_sign start ≡ true
start_signs start h =
    signs_by (starts_with nat_eq start (codes "https://")) (starts_with nat_eq start (codes "http://")) start refl refl (start_hosted start h)

filled_signs : (path : List ℕ) (n : ℕ) (parts : List (List ℕ)) → n < 2 ^ 64 → are_parts parts ≡ true → list_all is_address_sign (filled path n parts) ≡ true
filled_signs path n [] small h = refl
filled_signs path n (start ∷ others) small h =
    let halves = both (is_start start) (list_all is_part others && count_by is_path_part others == 1) h in
    let more = both (list_all is_part others) (count_by is_path_part others == 1) halves.1 in
    within start (flat_map (filled_part path n) others) (start_signs start halves.0) (parts_signs path n others small more.0)

-- ---- beginnings

scheme_first : (secure plain : Bool) (text more : List ℕ) → starts_with nat_eq text (codes "https://") ≡ secure → starts_with nat_eq text (codes "http://") ≡ plain
    → begins_with_host (if secure then drop 8 text else (if plain then drop 7 text else [])) ≡ true → starts_with nat_eq (text ++ more) (codes "http") ≡ true
scheme_first true plain text more s p h =
    subst (λ (t : List ℕ). starts_with nat_eq (t ++ more) (codes "http") ≡ true) (sym (parted text (codes "https://") s)) refl
scheme_first false true text more s p h =
    subst (λ (t : List ℕ). starts_with nat_eq (t ++ more) (codes "http") ≡ true) (sym (parted text (codes "http://") p)) refl
scheme_first false false text more s p h = absurd (true≢false (sym h))

filled_scheme : (path : List ℕ) (n : ℕ) (parts : List (List ℕ)) → are_parts parts ≡ true → starts_with nat_eq (filled path n parts) (codes "http") ≡ true
filled_scheme path n [] h = absurd (true≢false (sym h))
filled_scheme path n (start ∷ others) h =
    let halves = both (is_start start) (list_all is_part others && count_by is_path_part others == 1) h in
    scheme_first (starts_with nat_eq start (codes "https://")) (starts_with nat_eq start (codes "http://")) start
    (flat_map (filled_part path n) others) refl refl (start_hosted start halves.0)

starts_itself : (xs ys : List ℕ) → starts_with nat_eq (xs ++ ys) xs ≡ true
starts_itself xs ys = (starts_is Decides-eqb (xs ++ ys) xs (starts_with nat_eq (xs ++ ys) xs) refl).1 ys refl

-- the first of these, or the empty string
head_of : List (List ℕ) → List ℕ
head_of [] = []
head_of (part ∷ parts) = part

head_onto : (x : ℕ) (parts : List (List ℕ)) → head_of (onto_first x parts) ≡ x ∷ head_of parts
unfolding head_of
head_onto x [] = refl
head_onto x (part ∷ parts) = refl

-- the first part of a string that is split is what is before the first place
first_by : (cut : Bool) (x : ℕ) (xs : List ℕ) → head_of (slice_split (λ b. b == 123) xs) ≡ take_while (λ b. not (b == 123)) xs
    → head_of (if cut then [] ∷ slice_split (λ b. b == 123) xs else onto_first x (slice_split (λ b. b == 123) xs))
    ≡ (if not cut then x ∷ take_while (λ b. not (b == 123)) xs else [])
unfolding head_of
first_by true x xs h = refl
first_by false x xs h = head_onto x (slice_split (λ b. b == 123) xs) ∙ ap (λ first. x ∷ first) h

first_part : (xs : List ℕ) → head_of (slice_split (λ b. b == 123) xs) ≡ take_while (λ b. not (b == 123)) xs
unfolding head_of
first_part [] = refl
first_part (x ∷ xs) = first_by (x == 123) x xs (first_part xs) ∙ sym (take_while-cons (λ b. not (b == 123)) x xs)

filled_start : (path : List ℕ) (n : ℕ) (parts : List (List ℕ)) → starts_with nat_eq (filled path n parts) (head_of parts) ≡ true
unfolding head_of
filled_start path n [] = refl
filled_start path n (start ∷ others) = starts_itself start (flat_map (filled_part path n) others)

pub chosen : (b : Bool) (P : List ℕ → Type 0) (x : List ℕ) → P x → IfSome (if b then Some x else None) P
chosen true P x h = h
chosen false P x h = tt

pub has_parts : (text : List ℕ) → is_template text ≡ true → are_parts (parts_of text) ≡ true
has_parts text h =
    (both (not (has_two_signs false text)) (are_parts (parts_of text))
    (both (nat_le (length text) most_of_address) (not (has_two_signs false text) && are_parts (parts_of text)) h).1).1

pub place_signs : (template path : List ℕ) (line : Option ℕ) → is_template template ≡ true → unwrap_or line 1 < 2 ^ 32
    → IfSome (place_address template path line) (λ address. list_all is_address_sign address ≡ true)
place_signs template path line is small =
    chosen (is_linkable path) (λ address. list_all is_address_sign address ≡ true) (filled path (unwrap_or line 1) (parts_of template))
    (filled_signs path (unwrap_or line 1) (parts_of template) (omega arith) (has_parts template is))

pub place_scheme : (template path : List ℕ) (line : Option ℕ) → is_template template ≡ true
    → IfSome (place_address template path line) (λ address. starts_with nat_eq address (codes "http") ≡ true)
place_scheme template path line is =
    chosen (is_linkable path) (λ address. starts_with nat_eq address (codes "http") ≡ true) (filled path (unwrap_or line 1) (parts_of template))
    (filled_scheme path (unwrap_or line 1) (parts_of template) (has_parts template is))

pub place_start : (template path : List ℕ) (line : Option ℕ)
    → IfSome (place_address template path line) (λ address. starts_with nat_eq address (before_first (λ b. b == 123) template) ≡ true)
place_start template path line =
    chosen (is_linkable path) (λ address. starts_with nat_eq address (before_first (λ b. b == 123) template) ≡ true)
    (filled path (unwrap_or line 1) (parts_of template))
    (subst (λ (start : List ℕ). starts_with nat_eq (filled path (unwrap_or line 1) (parts_of template)) start ≡ true) (first_part template)
    (filled_start path (unwrap_or line 1) (parts_of template)))
