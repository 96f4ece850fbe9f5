-- The text of an integer in a source is the one that is printed.
use Rattle.std.proofs.Common.{◌≡◌, ℕ, zero, suc, ◌+◌, ◌-◌, ◌^◌, ◌<◌, ◌≤◌, List, [], ◌∷◌, length, drop, get_or, slice_range, add-zero, Bool, true, false, cond, ◌&&◌, ◌||◌, not, eqb, ltb, leb, Option, Some, None, option_and_then, decimal, refl, sym, ap, ◌∙◌, subst, arith}
use Rattle.std.proofs.lemmas.Bool.{true≢false, false≢true, and_parts, and_from, eqb-true, eq-eqb, ltb-true, leb-true, ne_eqb}
use Rattle.std.proofs.lemmas.Fmt.{decimal-digits_value}
use Rattle.std.proofs.lemmas.List.{get_or-drop, drop-drop, length-take, length-drop}
use Rattle.std.proofs.lemmas.List.Sums.{prefix_len-le-length}
use Rattle.std.proofs.lemmas.Str.Parse.{numerals_by_value, tells_digits}
use Rattle.std.specs.Char.{is_ascii_digit}
use Rattle.std.specs.Fmt.{signed_decimal}
use Rattle.std.specs.Float.Numeral.{digits_end, exponent_start, has_exponent}
use Rattle.std.specs.List.{prefix_len}
use Rattle.std.specs.Str.Parse.{AllDigits, digits_value}
use Rattle.std.specs.Float.{binary64}
use Rattle.fast_float.specs.Text.{Parts, scan, digits_of, nearest, with_sign}
use Rattle.fast_float.proofs.Reading.{scan_numeral-AllDigits}
use Rattle.json.specs.Print.{IsNumber}
use Rattle.json.specs.Word.{head, after_digits, after_sign, after_whole, after_fraction, after_exponent, after_number}
use Rattle.serde_json.specs.Data.{Num, unsigned, negative, float}
use Rattle.serde_json.specs.Find.{is_float}
use Rattle.serde_json.specs.Read.{is_integer, number_from, number_of, float_of}
use Rattle.serde_json.specs.Written.{number_text}
use Rattle.json_parts.proofs.Digits.{parts_at, scanned, whole_text, digits_at}
use Rattle.json_parts.proofs.Readings.{not_found, Some_inj}

-- what a number leaves after its whole digits
abbrev after_rest : List ℕ → Option (List ℕ)
after_rest r = option_and_then after_exponent (after_fraction r)

abbrev exponent_at : List ℕ → ℕ → List ℕ
exponent_at t b = cond (has_exponent t b) (slice_range t (exponent_start t b) (digits_end t (exponent_start t b))) []

-- the bytes of a sign
abbrev signs : ℕ → Bool
signs x = eqb x 45 || eqb x 43

none_or : (b : Bool) (x r : List ℕ) → cond b None (Some x) ≡ Some r → b ≡ false
none_or true x r e = not_found r e
none_or false x r e = refl

begins_digit : (z : List ℕ) → eqb (prefix_len is_ascii_digit z) 0 ≡ false → is_ascii_digit (get_or z 0 0) ≡ true
begins_digit [] e = absurd (true≢false e)
begins_digit (c ∷ z) e = go (is_ascii_digit c) refl e
  where
    go : (b : Bool) → is_ascii_digit c ≡ b → eqb (cond b (1 + prefix_len is_ascii_digit z) 0) 0 ≡ false → is_ascii_digit c ≡ true
    go true is e = is
    go false is e = absurd (true≢false e)

same_sign : (r : List ℕ) → signs (get_or r 0 0) ≡ signs (head r)
same_sign [] = refl
same_sign (x ∷ r) = refl

integer_parts : (whole : ℕ) (point : Bool) (exponent : ℕ) → (ltb 0 whole && not point && eqb exponent 0) ≡ true
    → (0 < whole) × (point ≡ false) × (eqb exponent 0 ≡ true)
integer_parts whole true exponent e = absurd (false≢true ((and_parts _ _ (and_parts _ _ e).0).1))
integer_parts whole false exponent e = (ltb-true _ _ (and_parts _ _ (and_parts _ _ e).0).0, refl, (and_parts _ _ e).1)

-- of text t, what begins at a
module _ (t : List ℕ) (a c : ℕ) (r : List ℕ) (is : drop a t ≡ c ∷ r) where
  at : (k : ℕ) → get_or t (a + k) 0 ≡ get_or (c ∷ r) k 0
  at k = sym (get_or-drop a t k 0) ∙ ap (λ x. get_or x k 0) is

  from : (k : ℕ) → drop (a + k) t ≡ drop k (c ∷ r)
  from k = sym (drop-drop k a t) ∙ ap (drop k) is

  here : get_or t a 0 ≡ c
  here = ap (λ i. get_or t i 0) (sym (add-zero a)) ∙ at 0

  past_sign : (b : Bool) → drop (cond b (a + 2) (a + 1)) t ≡ cond b (drop 1 r) r
  past_sign true = from 2
  past_sign false = from 1

  digits_start : drop (exponent_start t a) t ≡ after_sign r
  digits_start =
      let same : signs (get_or t (a + 1) 0) ≡ signs (head r) = ap signs (at 1) ∙ same_sign r in
      past_sign (signs (get_or t (a + 1) 0)) ∙ ap (λ b. cond b (drop 1 r) r) same

  has_digits : eqb (prefix_len is_ascii_digit (after_sign r)) 0 ≡ false → (eqb c 101 || eqb c 69) ≡ true → 0 < length (exponent_at t a)
  has_digits some marked =
      let s = exponent_start t a in
      let first : is_ascii_digit (get_or t s 0) ≡ true =
      ap is_ascii_digit (ap (λ i. get_or t i 0) (sym (add-zero s)) ∙ sym (get_or-drop s t 0 0) ∙ ap (λ x. get_or x 0 0) digits_start)
      ∙ begins_digit (after_sign r) some in
      let mark : (eqb (get_or t a 0) 101 || eqb (get_or t a 0) 69) ≡ true = ap (λ x. eqb x 101 || eqb x 69) here ∙ marked in
      let has : has_exponent t a ≡ true = and_from _ _ mark first in
      let run : prefix_len is_ascii_digit (drop s t) ≡ prefix_len is_ascii_digit (after_sign r) = ap (prefix_len is_ascii_digit) digits_start in
      let more : 0 < prefix_len is_ascii_digit (drop s t) = grind (arith, some, run) in
      let cut = length-take (digits_end t s - s) (drop s t) in
      let bound = prefix_len-le-length is_ascii_digit (drop s t) in
      let all : 0 < length (slice_range t s (digits_end t s)) = omega (arith, cut, bound, more) in
      subst (λ b. 0 < length (cond b (slice_range t s (digits_end t s)) [])) (sym has) all

  -- nothing but a point or an exponent may follow
  by_mark : (b : Bool) → (eqb c 101 || eqb c 69) ≡ b → cond b (after_digits (after_sign r)) (Some (c ∷ r)) ≡ Some []
      → eqb (length (exponent_at t a)) 0 ≡ true → ⊥
  by_mark true mark e none = let some = has_digits (none_or _ _ _ e) mark in omega (arith, eqb-true _ _ none)
  by_mark false mark e none = cons_isnt_nil (Some_inj _ _ e)
    where
      cons_isnt_nil : c ∷ r ≡ [] → ⊥
      cons_isnt_nil e = cc

  by_point : (b : Bool) → eqb c 46 ≡ b → b ≡ false → option_and_then after_exponent (cond b (after_digits r) (Some (c ∷ r))) ≡ Some []
      → eqb (length (exponent_at t a)) 0 ≡ true → ⊥
  by_point true point off e none = true≢false off
  by_point false point off e none = by_mark (eqb c 101 || eqb c 69) refl e none

  no_more : after_rest (c ∷ r) ≡ Some [] → is_integer (parts_at t a) ≡ true → ⊥
  no_more e whole =
      let p = parts_at t a in
      let parts = integer_parts (length p.whole) p.point (length p.exponent) whole in
      let plain : eqb (get_or t a 0) 46 ≡ false = parts.1 in
      let none = subst (λ b. eqb (length (exponent_at t (cond b (digits_end t (a + 1)) a))) 0 ≡ true) plain parts.2 in
      by_point (eqb c 46) refl (ap (λ x. eqb x 46) (sym here) ∙ plain) e none

ends : (t : List ℕ) (a : ℕ) (r : List ℕ) → drop a t ≡ r → after_rest r ≡ Some [] → is_integer (parts_at t a) ≡ true → r ≡ []
ends t a [] is e whole = refl
ends t a (c ∷ r) is e whole = absurd (no_more t a c r is e whole)

-- ---- digits without a sign

record IsPlain (t : List ℕ) : Type 0 where
  digits : AllDigits 10 t
  some : 0 < length t
  lead : get_or t 0 0 ≡ 48 → length t ≡ 1
  value : digits_of (scan t) ≡ digits_value 10 t

one_zero : IsPlain (48 ∷ [])
unfolding scan
one_zero = record { digits = (omega arith, tt); some = omega arith; lead = λ _. refl; value = refl }

digit_stays : (x : ℕ) (r : List ℕ) → is_ascii_digit x ≡ true → after_rest (x ∷ r) ≡ Some (x ∷ r)
digit_stays x r digit =
    let range : (leb 48 x ≡ true) × (leb x 57 ≡ true) = and_parts (leb 48 x) (leb x 57) digit in
    let low = leb-true 48 x range.0 in
    let high = leb-true x 57 range.1 in
    rw (ne_eqb x 46 (λ e. omega arith), ne_eqb x 101 (λ e. omega arith), ne_eqb x 69 (λ e. omega arith))

cons_isnt_nil : {P : Type 0} (x : ℕ) (r : List ℕ) → x ∷ r ≡ [] → P
cons_isnt_nil x r e = absurd (let never : ⊥ = cc in never)

after_zero : (r : List ℕ) → after_rest r ≡ Some [] → is_integer (parts_at (48 ∷ r) (digits_end (48 ∷ r) 0)) ≡ true → r ≡ []
after_zero [] e whole = refl
after_zero (x ∷ r) e whole = go (is_ascii_digit x) refl whole
  where
    go : (b : Bool) → is_ascii_digit x ≡ b
        → is_integer (parts_at (48 ∷ x ∷ r) (0 + cond (is_ascii_digit 48) (1 + cond b (1 + prefix_len is_ascii_digit r) 0) 0)) ≡ true
        → x ∷ r ≡ []
    go true digit whole = cons_isnt_nil x r (Some_inj _ _ (sym (digit_stays x r digit) ∙ e))
    go false digit whole = absurd (no_more (48 ∷ x ∷ r) 1 x r refl e whole)

all_digits : (t : List ℕ) → eqb (head t) 48 ≡ false → eqb (prefix_len is_ascii_digit t) 0 ≡ false → drop (prefix_len is_ascii_digit t) t ≡ [] → IsPlain t
all_digits t lead some gone =
    let n = prefix_len is_ascii_digit t in
    let bound = prefix_len-le-length is_ascii_digit t in
    let end : digits_end t 0 ≡ length t = omega (arith, bound, ap length gone, length-drop n t) in
    let scan_is = scanned t in
    record {
      digits = subst (AllDigits 10) (ap (λ p. p.whole) scan_is ∙ whole_text t (digits_end t 0) end) (scan_numeral-AllDigits t).0;
      some = grind (arith, some, bound);
      lead = no_zero t lead;
      value = ap digits_of scan_is ∙ digits_at t (digits_end t 0) end;
    }
  where
    no_zero : (t : List ℕ) → eqb (head t) 48 ≡ false → get_or t 0 0 ≡ 48 → length t ≡ 1
    no_zero [] other is = absurd (omega (arith, is))
    no_zero (x ∷ r) other is = absurd (true≢false (sym (eq-eqb x 48 is) ∙ other))

plain_text : (t : List ℕ) → option_and_then after_exponent (option_and_then after_fraction (after_whole t)) ≡ Some [] → is_integer (scan t) ≡ true → IsPlain t
plain_text t e whole = by_lead t (eqb (head t) 48) refl e (sym (ap is_integer (scanned t)) ∙ whole)
  where
    by_some : (t : List ℕ) (b : Bool) → eqb (head t) 48 ≡ false → eqb (prefix_len is_ascii_digit t) 0 ≡ b
        → option_and_then after_exponent (option_and_then after_fraction (cond b None (Some (drop (prefix_len is_ascii_digit t) t))))
        ≡ Some [] → is_integer (parts_at t (digits_end t 0)) ≡ true → IsPlain t
    by_some t true lead some e whole = not_found _ e
    by_some t false lead some e whole =
        let n = prefix_len is_ascii_digit t in
        let at_end : digits_end t 0 ≡ n = omega arith in
        all_digits t lead some (ends t n (drop n t) refl e (ap (λ a. is_integer (parts_at t a)) (sym at_end) ∙ whole))

    by_lead : (t : List ℕ) (b : Bool) → eqb (head t) 48 ≡ b
        → option_and_then after_exponent (option_and_then after_fraction (cond b (Some (drop 1 t)) (after_digits t))) ≡ Some []
        → is_integer (parts_at t (digits_end t 0)) ≡ true → IsPlain t
    by_lead [] true lead e whole = absurd (false≢true lead)
    by_lead (x ∷ r) true lead e whole =
        let zero_first : x ≡ 48 = eqb-true x 48 lead in
        let none = after_zero r e (subst (λ y. is_integer (parts_at (y ∷ r) (digits_end (y ∷ r) 0)) ≡ true) zero_first whole) in
        subst IsPlain (sym (ap (λ y. y ∷ r) zero_first ∙ ap (λ ys. 48 ∷ ys) none)) one_zero
    by_lead t false lead e whole = by_some t (eqb (prefix_len is_ascii_digit t) 0) lead refl e whole

plain_decimal : (t : List ℕ) → IsPlain t → digits_of (scan t) < 2 ^ 64 → decimal (digits_of (scan t)) ≡ t
plain_decimal t p small = ap decimal p.value ∙ decimal-digits_value (numerals_by_value _ tells_digits) t p.digits p.some p.lead (omega (arith, small, p.value))

-- ---- numbers

no_float : (b : Bool) (n : Num) (p : Parts) (sign : Bool) → float_of sign p ≡ Some n → is_float n ≡ false → ⊥
no_float b n p sign e whole = go _ e
  where
    go : (finite : Bool) → cond finite (Some (float (nearest binary64 sign p))) None ≡ Some n → ⊥
    go true e = true≢false (ap is_float (Some_inj _ _ e) ∙ whole)
    go false e = not_found n e

record IsUnsigned (p : Parts) (n : Num) : Type 0 where
  whole : is_integer p ≡ true
  small : digits_of p < 2 ^ 64
  is : unsigned (digits_of p) ≡ n

unsigned_from : (p : Parts) (n : Num) → number_from false p ≡ Some n → is_float n ≡ false → IsUnsigned p n
unsigned_from p n e whole = go (is_integer p && ltb (digits_of p) (2 ^ 64)) refl e
  where
    go : (b : Bool) → (is_integer p && ltb (digits_of p) (2 ^ 64)) ≡ b → cond b (Some (unsigned (digits_of p))) (float_of false p) ≡ Some n → IsUnsigned p n
    go true both e = let parts = and_parts _ _ both in record { whole = parts.0; small = ltb-true _ _ parts.1; is = Some_inj _ _ e }
    go false both e = absurd (no_float false n p false e whole)

record IsNegative (p : Parts) (n : Num) : Type 0 where
  whole : is_integer p ≡ true
  some : 0 < digits_of p
  small : digits_of p ≤ 2 ^ 63
  is : negative (with_sign true (digits_of p)) ≡ n

negative_from : (p : Parts) (n : Num) → number_from true p ≡ Some n → is_float n ≡ false → IsNegative p n
negative_from p n e whole = go (is_integer p && ltb 0 (digits_of p) && leb (digits_of p) (2 ^ 63)) refl e
  where
    go : (b : Bool) → (is_integer p && ltb 0 (digits_of p) && leb (digits_of p) (2 ^ 63)) ≡ b
        → cond b (Some (negative (with_sign true (digits_of p)))) (float_of true p) ≡ Some n → IsNegative p n
    go true all e =
        let parts = and_parts _ _ all in
        let front = and_parts _ _ parts.0 in
        record { whole = front.0; some = ltb-true _ _ front.1; small = leb-true _ _ parts.1; is = Some_inj _ _ e }
    go false all e = absurd (no_float false n p true e whole)

minus_text : (d : ℕ) → 0 < d → signed_decimal (with_sign true d) ≡ 45 ∷ decimal d
minus_text zero some = absurd (omega arith)
minus_text (suc m) some = refl

same_minus : (s : List ℕ) → eqb (head s) 45 ≡ eqb (get_or s 0 0) 45
same_minus [] = refl
same_minus (x ∷ s) = refl

minus_first : (s : List ℕ) → eqb (get_or s 0 0) 45 ≡ true → 45 ∷ drop 1 s ≡ s
minus_first [] e = absurd (false≢true e)
minus_first (x ∷ s) e = ap (λ y. y ∷ s) (sym (eqb-true x 45 e))

abbrev after_sign_of : Bool → List ℕ → Option (List ℕ)
after_sign_of b s = option_and_then after_exponent (option_and_then after_fraction (after_whole (cond b (drop 1 s) s)))

number_parts : (s : List ℕ) → IsNumber s → after_sign_of (eqb (get_or s 0 0) 45) s ≡ Some []
unfolding after_number
number_parts s e = ap (λ b. after_sign_of b s) (sym (same_minus s)) ∙ e

by_sign : (s : List ℕ) (n : Num) (b : Bool) → eqb (get_or s 0 0) 45 ≡ b → after_sign_of b s ≡ Some []
    → cond b (number_from true (scan (drop 1 s))) (number_from false (scan s)) ≡ Some n → is_float n ≡ false → number_text n ≡ s
by_sign s n true minus e read whole =
    let t = drop 1 s in
    let from = negative_from (scan t) n read whole in
    let text = plain_decimal t (plain_text t e from.whole) (omega (arith, from.small)) in
    ap number_text (sym from.is) ∙ minus_text (digits_of (scan t)) from.some ∙ ap (λ x. 45 ∷ x) text ∙ minus_first s minus
by_sign s n false minus e read whole =
    let from = unsigned_from (scan s) n read whole in
    ap number_text (sym from.is) ∙ plain_decimal s (plain_text s e from.whole) from.small

-- what is printed of a number that is held as an integer is its text
pub integer_text : (s : List ℕ) (n : Num) → IsNumber s → number_of s ≡ Some n → is_float n ≡ false → number_text n ≡ s
unfolding number_of
integer_text s n number read whole = by_sign s n (eqb (get_or s 0 0) 45) refl (number_parts s number) read whole
