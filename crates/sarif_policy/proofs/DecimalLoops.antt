-- Digits, gone through as loops do.
use Rattle.std.proofs.Common.{◌≡◌, ℕ, ◌+◌, ◌<◌, ◌≤◌, ◌==◌, ◌≢◌, Bool, true, false, List, [], ◌∷◌, length, take, drop, get_or, ◌++◌, ◌-◌, ◌&&◌, cond, length-append, refl, sym, ap, ◌∙◌, arith}
use Rattle.std.specs.Prelude.{nat_lt, slice_index}
use Rattle.std.specs.List.{list_all}
use Rattle.std.specs.Str.Parse.{AllDigits}
use Rattle.std.specs.Char.{digit_value}
use Rattle.std.proofs.lemmas.Bool.{false≢true}
use Rattle.std.proofs.lemmas.Bool.Decides.{nat_tests}
use Rattle.std.proofs.lemmas.List.{drop_more, at_drop_all, drop-drop, take_rest}
use Rattle.sarif_policy.specs.Decimal.{IsDecimal, next_of, in_order, is_digit, without_zeros, number_with}

pub next_there : (ys : List ℕ) (at : ℕ) → at < length ys → next_of (drop at ys) ≡ get_or ys at 0
next_there ys at within = ap next_of (drop_more ys at 0 within)

pub next_past : (ys : List ℕ) (at : ℕ) → length ys ≤ at → next_of (drop at ys) ≡ 48
next_past ys at past = ap next_of (at_drop_all (λ v. v) ys at past)

pub goes_on : (xs ys : List ℕ) (at : ℕ) → at < length xs → get_or xs at 0 ≡ next_of (drop at ys)
    → in_order (drop (at + 1) xs) (drop (at + 1) ys) ≡ in_order (drop at xs) (drop at ys)
unfolding in_order
goes_on xs ys at within same =
    let test : (get_or xs at 0 == next_of (drop at ys)) ≡ true = grind (arith, nat_tests) in
    rw (drop_more xs at 0 within, test) (ap (λ v. in_order (drop (at + 1) xs) v) (sym (drop-drop 1 at ys)))

pub stops : (xs ys : List ℕ) (at : ℕ) → at < length xs → get_or xs at 0 ≢ next_of (drop at ys)
    → in_order (drop at xs) (drop at ys) ≡ nat_lt (get_or xs at 0) (next_of (drop at ys))
unfolding in_order
stops xs ys at within other =
    let test : (get_or xs at 0 == next_of (drop at ys)) ≡ false = grind (arith, nat_tests) in
    rw (drop_more xs at 0 within, test) refl

pub at_end : (xs ys : List ℕ) (at : ℕ) → length xs ≤ at → in_order (drop at xs) (drop at ys) ≡ true
unfolding in_order
at_end xs ys at past = rw (at_drop_all (λ v. v) xs at past) refl

-- ---- zeros at the front

pub skips_zero : (ds : List ℕ) (at : ℕ) → at < length ds → get_or ds at 0 ≡ 48 → without_zeros (drop (at + 1) ds) ≡ without_zeros (drop at ds)
unfolding without_zeros
skips_zero ds at within is = rw (drop_more ds at 0 within, is) refl

pub stops_at_digit : (ds : List ℕ) (at : ℕ) → at < length ds → get_or ds at 0 ≢ 48
    → take (length ds - at) (drop at ds) ≡ without_zeros (drop at ds)
unfolding without_zeros
stops_at_digit ds at within other =
    let test : (get_or ds at 0 == 48) ≡ false = grind (arith, nat_tests) in
    take_rest ds at ∙ rw (drop_more ds at 0 within, test) refl

pub zeros_end : (ds : List ℕ) (at : ℕ) → length ds ≤ at → without_zeros (drop at ds) ≡ []
unfolding without_zeros
zeros_end ds at past = rw (at_drop_all (λ v. v) ds at past) refl

-- ---- a decimal of digits

digit_means : (b : ℕ) → is_digit b ≡ true → digit_value b < 10
digit_means b is =
    let low : 48 ≤ b = grind (arith, nat_tests) in
    let high : b ≤ 57 = grind (arith, nat_tests) in
    let value : digit_value b ≡ b - 48 = grind (arith, nat_tests) in
    omega (arith, value, low, high)

and_left : (a b : Bool) → (a && b) ≡ true → a ≡ true
and_left true b is = refl
and_left false b is = is

and_right : (a b : Bool) → (a && b) ≡ true → b ≡ true
and_right true b is = is
and_right false b is = absurd (false≢true is)

all_mean : (ds : List ℕ) → list_all is_digit ds ≡ true → AllDigits 10 ds
all_mean [] _ = tt
all_mean (d ∷ ds) all =
    (digit_means d (and_left (is_digit d) (list_all is_digit ds) all), all_mean ds (and_right (is_digit d) (list_all is_digit ds) all))

all_joined : (ds es : List ℕ) → AllDigits 10 ds → AllDigits 10 es → AllDigits 10 (ds ++ es)
all_joined [] es _ also = also
all_joined (d ∷ ds) es all also = (all.0, all_joined ds es all.1 also)

all_without : (ds : List ℕ) → list_all is_digit ds ≡ true → list_all is_digit (without_zeros ds) ≡ true
unfolding without_zeros
all_without [] all = refl
all_without (d ∷ ds) all =
    (elim (d == 48) as (λ t. list_all is_digit (cond t (without_zeros ds) (d ∷ ds)) ≡ true) [
      | true ↦ all_without ds (and_right (is_digit d) (list_all is_digit ds) all)
      | false ↦ all
    ])

first_is : (ds es : List ℕ) → list_all is_digit ds ≡ true → 0 < length (without_zeros ds) → 48 < slice_index (without_zeros ds ++ es) 0
unfolding without_zeros
first_is [] es all some = absurd (omega (arith, some))
first_is (d ∷ ds) es all some =
    by_zero (first_is ds es (and_right (is_digit d) (list_all is_digit ds) all)) (d == 48) refl some
  where
    by_zero : (0 < length (without_zeros ds) → 48 < slice_index (without_zeros ds ++ es) 0)
        → (t : Bool) → (d == 48) ≡ t → 0 < length (cond t (without_zeros ds) (d ∷ ds)) → 48 < slice_index (cond (d == 48) (without_zeros ds) (d ∷ ds) ++ es) 0
    by_zero rest true is more = rw is (rest more)
    by_zero rest false is more =
        let digit : is_digit d ≡ true = and_left (is_digit d) (list_all is_digit ds) all in
        let low : 48 ≤ d = grind (arith, nat_tests) in
        let over : 48 < d = grind (arith, nat_tests) in
        rw is over

pub decimal_with : (whole fraction : List ℕ) → list_all is_digit whole ≡ true → list_all is_digit fraction ≡ true → IsDecimal (number_with whole fraction)
decimal_with whole fraction all also = record {
  digits = all_joined (without_zeros whole) fraction (all_mean (without_zeros whole) (all_without whole all)) (all_mean fraction also);
  within = omega (arith, length-append (without_zeros whole) fraction);
  first = λ some. first_is whole fraction all some;
}
