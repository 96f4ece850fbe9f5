-- The number that a short text of digits alone writes.
use Rattle.std.proofs.Common.{◌≡◌, ℕ, ◌+◌, ◌-◌, ◌*◌, ◌^◌, ◌<◌, ◌≤◌, true, false, cond, eqb, ltb, ◌&&◌, List, [], ◌∷◌, length, get_or, take, slice_range, Some, refl, ap, ◌∙◌, sym, arith, zero-add, append-nil, length-take, lit<}
use Rattle.std.proofs.lemmas.Bool.{lt-ltb, ne_eqb}
use Rattle.std.proofs.lemmas.Bool.Decides.{nat_tests}
use Rattle.std.proofs.Math.Nat.{pow-le-pow_right}
use Rattle.std.proofs.lemmas.Int.Digits.{digits_value_more, digits_more, digits_value-lt}
use Rattle.std.proofs.lemmas.List.{get_or_past, take_all}
use Rattle.std.proofs.lemmas.Str.Parse.{digit_from_value}
use Rattle.std.specs.Char.{digit_value}
use Rattle.std.specs.Float.Numeral.{digits_len, digits_end, exponent_start, has_exponent}
use Rattle.std.specs.Str.Parse.{AllDigits, IsNumeral, digits_value}
use Rattle.fast_float.proofs.Integers.{digits_len_all}
use Rattle.fast_float.specs.Text.{Parts, scan, digits_of}
use Rattle.serde_json.specs.Data.{unsigned}
use Rattle.serde_json.specs.Read.{is_integer, number_from, number_of, float_of}

short_fits : (ds : List ℕ) → AllDigits 10 ds → length ds ≤ 18 → digits_value 10 ds < 2 ^ 64
short_fits ds all short =
    let most : 10 ^ length ds ≤ 10 ^ 18 = pow-le-pow_right (lit< tt) short in
    omega (arith, digits_value-lt 10 ds all)

-- one more digit
pub record IsMore (bs : List ℕ) (i b : ℕ) : Type 0 where
  pub digits : AllDigits 10 (take (i + 1) bs)
  pub value : digits_value 10 (take (i + 1) bs) ≡ digits_value 10 (take i bs) * 10 + (b - 48)
  pub fits : digits_value 10 (take (i + 1) bs) < 2 ^ 64

value_of_digit : (b : ℕ) → 48 ≤ b → b ≤ 57 → digit_value b ≡ b - 48
value_of_digit b low high = grind (arith, nat_tests)

pub one_digit_more : (bs : List ℕ) (i b : ℕ) → i < length bs → length bs ≤ 18 → b ≡ get_or bs i 0 → 48 ≤ b → b ≤ 57 → AllDigits 10 (take i bs) → IsMore bs i b
one_digit_more bs i b within short is low high before =
    let d : digit_value (get_or bs i 0) ≡ b - 48 = ap digit_value (sym is) ∙ value_of_digit b low high in
    let all : AllDigits 10 (take (i + 1) bs) = digits_more 10 bs i within before (omega (arith, d)) in
    record {
      digits = all;
      value = digits_value_more 10 bs i within ∙ ap (λ x. digits_value 10 (take i bs) * 10 + x) d;
      fits = short_fits (take (i + 1) bs) all (omega (arith, length-take (i + 1) bs));
    }

-- ---- what is read of digits alone

-- the parts of a numeral whose first digits end at a
abbrev pub parts_at : List ℕ → ℕ → Parts
parts_at s a =
    let point = eqb (get_or s a 0) 46 in
    let b = cond point (digits_end s (a + 1)) a in
    let c = exponent_start s b in
    record {
      whole = slice_range s 0 a;
      point = point;
      fraction = cond point (slice_range s (a + 1) b) [];
      exponent_negative = has_exponent s b && eqb (get_or s (b + 1) 0) 45;
      exponent = cond (has_exponent s b) (slice_range s c (digits_end s c)) [];
      len = cond (has_exponent s b) (digits_end s c) b;
    }

pub scanned : (s : List ℕ) → scan s ≡ parts_at s (digits_end s 0)
unfolding scan
scanned s = refl

module _ (s : List ℕ) (a : ℕ) (is : a ≡ length s) where
  pub past : get_or s a 0 ≡ 0
  past = get_or_past s a 0 (omega (arith, is))

  pub whole_text : slice_range s 0 a ≡ s
  whole_text = take_all (a - 0) s (omega (arith, is))

  integer_at : ltb 0 (length s) ≡ true → is_integer (parts_at s a) ≡ true
  integer_at some = simp (past, whole_text, some)

  pub digits_at : digits_of (parts_at s a) ≡ digits_value 10 s
  digits_at = simp (past, whole_text, append-nil)

digits_end_all : (s : List ℕ) → AllDigits 10 s → digits_end s 0 ≡ length s
digits_end_all s all = zero-add (digits_len s) ∙ digits_len_all s all

integer_from : (p : Parts) (n : ℕ) → is_integer p ≡ true → digits_of p ≡ n → n < 2 ^ 64 → number_from false p ≡ Some (unsigned n)
integer_from p n whole is small =
    let both : (is_integer p && ltb (digits_of p) (2 ^ 64)) ≡ true = simp (whole, lt-ltb (digits_of p) (2 ^ 64) (omega (arith, is))) in
    ap (λ b. cond b (Some (unsigned (digits_of p))) (float_of false p)) both ∙ ap (λ k. Some (unsigned k)) is

no_minus : (s : List ℕ) → IsNumeral 10 s → eqb (get_or s 0 0) 45 ≡ false
no_minus [] numeral = refl
no_minus (c ∷ cs) numeral = ne_eqb c 45 (λ e. let low = digit_from_value c numeral.1.0 in omega (arith, low, e))

-- the number of digits alone, if they fit
pub number_of_digits : (s : List ℕ) → IsNumeral 10 s → length s ≤ 18 → number_of s ≡ Some (unsigned (digits_value 10 s))
unfolding number_of
number_of_digits s numeral short =
    let ends = digits_end_all s numeral.1 in
    let first = no_minus s numeral in
    let some : ltb 0 (length s) ≡ true = lt-ltb 0 (length s) numeral.0 in
    let parts = scanned s in
    rw first
    (integer_from (scan s) (digits_value 10 s) (ap is_integer parts ∙ integer_at s (digits_end s 0) ends some)
    (ap digits_of parts ∙ digits_at s (digits_end s 0) ends)
    (short_fits s numeral.1 (omega arith)))
