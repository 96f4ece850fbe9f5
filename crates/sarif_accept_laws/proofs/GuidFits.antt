-- A GUID that is read has 128 bits.
use Rattle.std.proofs.Common.{◌≡◌, ℕ, zero, suc, ◌==◌, ◌+◌, ◌*◌, ◌<◌, ◌^◌, Bool, true, false, ◌&&◌, List, [], ◌∷◌, length, Option, Some, None, option_map, refl, arith, if◌then◌else◌, take, drop}
use Rattle.std.specs.Prelude.{IfSome, slice_index}
use Rattle.std.specs.Int.{w128, from_be_bytes}
use Rattle.std.specs.List.{list_all}
use Rattle.std.proofs.lemmas.Bool.Decides.{nat_tests}
use Rattle.std.proofs.lemmas.Bool.{and_parts}
use Rattle.uuid.specs.Text.{parsed, parsed_simple, parsed_hyphenated, parsed_braced, parsed_urn, byte_of_digits, value_of, is_hex_digit, by_index, digits_of, has_urn_prefix, open_brace, close_brace}
use Rattle.sarif_model.specs.Guid.{guid_of_text}

small_value : (c : ℕ) → is_hex_digit c ≡ true → value_of c < 16
small_value c is = grind (arith, nat_tests)

at_digit : (hex : List ℕ) (k : ℕ) → list_all is_hex_digit hex ≡ true → k < length hex → value_of (slice_index hex k) < 16
at_digit [] k all within = absurd (omega arith)
at_digit (x ∷ xs) zero all within = small_value x (and_parts (is_hex_digit x) (list_all is_hex_digit xs) all).0
at_digit (x ∷ xs) (suc k) all within = at_digit xs k (and_parts (is_hex_digit x) (list_all is_hex_digit xs) all).1 (omega arith)

small_byte : (hex : List ℕ) (k : ℕ) → length hex ≡ 32 → list_all is_hex_digit hex ≡ true → k < 16 → byte_of_digits hex k < 256
small_byte hex k long all within =
    let high : value_of (slice_index hex (2 * k)) < 16 = at_digit hex (2 * k) all (omega arith) in
    let low : value_of (slice_index hex (2 * k + 1)) < 16 = at_digit hex (2 * k + 1) all (omega arith) in
    sum_small (value_of (slice_index hex (2 * k))) (value_of (slice_index hex (2 * k + 1))) high low
  where
    sum_small : (a b : ℕ) → a < 16 → b < 16 → a * 16 + b < 256
    sum_small a b h l = omega arith

weighed : (a b c d e f g h i j k l m n o p : ℕ) → a < 256 → b < 256 → c < 256 → d < 256 → e < 256 → f < 256 → g < 256 → h < 256 → i < 256
    → j < 256 → k < 256 → l < 256 → m < 256 → n < 256 → o < 256 → p < 256
    → from_be_bytes w128 (a ∷ b ∷ c ∷ d ∷ e ∷ f ∷ g ∷ h ∷ i ∷ j ∷ k ∷ l ∷ m ∷ n ∷ o ∷ p ∷ []) < 2 ^ 128
weighed a b c d e f g h i j k l m n o p ha hb hc hd he hf hg hh hi hj hk hl hm hn ho hp = omega arith

small_number : (hex : List ℕ) → length hex ≡ 32 → list_all is_hex_digit hex ≡ true → from_be_bytes w128 (by_index 16 (byte_of_digits hex)) < 2 ^ 128
unfolding by_index
small_number hex long all =
    let s : (k : ℕ) → k < 16 → byte_of_digits hex k < 256 = λ k within. small_byte hex k long all within in
    weighed _ _ _ _ _ _ _ _ _ _ _ _ _ _ _ _ (s 0 (omega arith)) (s 1 (omega arith)) (s 2 (omega arith)) (s 3 (omega arith))
    (s 4 (omega arith)) (s 5 (omega arith)) (s 6 (omega arith)) (s 7 (omega arith)) (s 8 (omega arith)) (s 9 (omega arith))
    (s 10 (omega arith)) (s 11 (omega arith)) (s 12 (omega arith)) (s 13 (omega arith)) (s 14 (omega arith)) (s 15 (omega arith))

-- the bytes make a number of 128 bits
abbrev FitsIfSome : Option (List ℕ) → Type 0
FitsIfSome o = IfSome o (λ bytes. from_be_bytes w128 bytes < 2 ^ 128)

either : (b : Bool) (o : Option (List ℕ)) → (b ≡ true → FitsIfSome o) → FitsIfSome (if b then o else None)
either true o so = so refl
either false o so = tt

simple_fits : (hex : List ℕ) → FitsIfSome (parsed_simple hex)
simple_fits hex = either ((length hex == 32) && list_all is_hex_digit hex) (Some (by_index 16 (byte_of_digits hex))) (λ is.
    let both = and_parts (length hex == 32) (list_all is_hex_digit hex) is in
    small_number hex (grind (arith, nat_tests)) both.1)

hyphenated_fits : (s : List ℕ) → FitsIfSome (parsed_hyphenated s)
hyphenated_fits s = either _ (parsed_simple (digits_of s)) (λ _. simple_fits (digits_of s))

braced_fits : (s : List ℕ) → FitsIfSome (parsed_braced s)
braced_fits s = either ((length s == 38) && (slice_index s 0 == open_brace) && (slice_index s 37 == close_brace))
    (parsed_hyphenated (take 36 (drop 1 s))) (λ _. hyphenated_fits (take 36 (drop 1 s)))

urn_fits : (s : List ℕ) → FitsIfSome (parsed_urn s)
urn_fits s = either ((length s == 45) && has_urn_prefix s) (parsed_hyphenated (drop 9 s)) (λ _. hyphenated_fits (drop 9 s))

parsed_fits : (s : List ℕ) → FitsIfSome (parsed s)
parsed_fits s =
    first (length s == 32) (length s == 36) (length s == 38) (length s == 45) (parsed_simple s) (parsed_hyphenated s) (parsed_braced s) (parsed_urn s)
    (simple_fits s) (hyphenated_fits s) (braced_fits s) (urn_fits s)
  where
    first : (a b c d : Bool) (o p q r : Option (List ℕ)) → FitsIfSome o → FitsIfSome p → FitsIfSome q → FitsIfSome r
        → FitsIfSome (if a then o else if b then p else if c then q else if d then r else None)
    first true b c d o p q r ho hp hq hr = ho
    first false true c d o p q r ho hp hq hr = hp
    first false false true d o p q r ho hp hq hr = hq
    first false false false true o p q r ho hp hq hr = hr
    first false false false false o p q r ho hp hq hr = tt

-- a GUID that is read has 128 bits
pub guid_fits : (text : List ℕ) → IfSome (guid_of_text text) (λ guid. guid < 2 ^ 128)
unfolding guid_of_text
guid_fits text = mapped (parsed text) (parsed_fits text)
  where
    mapped : (o : Option (List ℕ)) → FitsIfSome o → IfSome (option_map (from_be_bytes w128) o) (λ guid. guid < 2 ^ 128)
    mapped None fits = tt
    mapped (Some bytes) fits = fits
