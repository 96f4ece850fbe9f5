-- The first digits that differ decide which decimal is greater.
use Rattle.std.proofs.Common.{◌≡◌, ℕ, suc, ◌+◌, ◌-◌, ◌*◌, ◌^◌, ◌<◌, ◌≤◌, ◌==◌, Bool, true, false, cond, List, [], ◌∷◌, length, refl, sym, ap, ◌∙◌, arith}
use Rattle.std.specs.Prelude.{nat_le, nat_lt, slice_index}
use Rattle.std.specs.Char.{digit_value}
use Rattle.std.specs.Str.Parse.{AllDigits, digits_value, digits_value_after}
use Rattle.std.proofs.lemmas.Bool.Decides.{nat_tests}
use Rattle.std.proofs.lemmas.Grind.{pow_more}
use Rattle.std.proofs.lemmas.Nat.{pow-add}
use Rattle.std.proofs.Math.Nat.{mul-le-mul_right, one-le-pow, pow-le-pow_right}
use Rattle.std.proofs.lemmas.Int.Digits.{digits_value-lt}
use Rattle.std.proofs.lemmas.Str.Parse.{digit_at}
use Rattle.sarif_policy.specs.Decimal.{Number, IsDecimal, places, at_most, in_order}

-- ---- numbers

is_le : (m n : ℕ) → m ≤ n → nat_le m n ≡ true
is_le m n h = grind (arith, nat_tests)

is_not_le : (m n : ℕ) → n < m → nat_le m n ≡ false
is_not_le m n h = grind (arith, nat_tests)

some_power : (n : ℕ) → 1 ≤ 10 ^ n
some_power n = one-le-pow n 10 (omega arith)

-- factors that both have make no difference
same_factor : (a b k : ℕ) → 0 < k → nat_le (a * k) (b * k) ≡ nat_le a b
same_factor a b k some = by_order (nat_le a b) refl
  where
    by_order : (t : Bool) → nat_le a b ≡ t → nat_le (a * k) (b * k) ≡ nat_le a b
    by_order true is =
        let h : a ≤ b = grind (arith, nat_tests) in
        is_le (a * k) (b * k) (mul-le-mul_right k h) ∙ sym is
    by_order false is =
        let h : b + 1 ≤ a = grind (arith, nat_tests) in
        let more : (b + 1) * k ≤ a * k = mul-le-mul_right k h in
        is_not_le (a * k) (b * k) (omega (arith, more)) ∙ sym is

cross_le : (a b p q m k : ℕ) → a ≤ m * p → m ≤ k → k * q ≤ b → a * q ≤ b * p
cross_le a b p q m k one two three =
    let first : a * q ≤ m * p * q = mul-le-mul_right q one in
    let second : m * (p * q) ≤ k * (p * q) = mul-le-mul_right (p * q) two in
    let third : k * q * p ≤ b * p = mul-le-mul_right p three in
    omega (arith, first, second, third)

cross_lt : (a b p q m k : ℕ) → 1 ≤ p → b + 1 ≤ m * q → m ≤ k → k * p ≤ a → b * p < a * q
cross_lt a b p q m k some one two three =
    let first : (b + 1) * p ≤ m * q * p = mul-le-mul_right p one in
    let second : m * (p * q) ≤ k * (p * q) = mul-le-mul_right (p * q) two in
    let third : k * p * q ≤ a * q = mul-le-mul_right q three in
    omega (arith, first, second, third, some)

-- ---- digits

one_more : (c : ℕ) (cs : List ℕ) → 10 ^ length (c ∷ cs) ≡ 10 ^ length cs * 10
one_more c cs = ap (λ n. 10 ^ n) (omega arith) ∙ pow_more 10 (length cs)

value_of_digit : (b : ℕ) → 48 ≤ b → b ≤ 57 → digit_value b ≡ b - 48
value_of_digit b low high = grind (arith, nat_tests)

-- the number of digits after a number
value_after : (n : ℕ) (ds : List ℕ) → digits_value_after 10 n ds ≡ n * 10 ^ length ds + digits_value 10 ds
value_after n [] = omega arith
value_after n (c ∷ cs) =
    let d : ℕ = digit_value c in
    let p : ℕ = 10 ^ length cs in
    rw (value_after (n * 10 + d) cs, value_after (0 * 10 + d) cs, one_more c cs) (omega arith)

least_after : (n : ℕ) (ds : List ℕ) → n * 10 ^ length ds ≤ digits_value_after 10 n ds
least_after n ds = omega (arith, value_after n ds)

most_after : (n : ℕ) (ds : List ℕ) → AllDigits 10 ds → digits_value_after 10 n ds + 1 ≤ (n + 1) * 10 ^ length ds
most_after n ds all = omega (arith, value_after n ds, digits_value-lt 10 ds all)

-- digits that begin with a smaller one are less
pub less : (n dx dy : ℕ) (xs ys : List ℕ) → AllDigits 10 xs → dx < dy
    → digits_value_after 10 (n * 10 + dx) xs * 10 ^ length ys < digits_value_after 10 (n * 10 + dy) ys * 10 ^ length xs
less n dx dy xs ys all h =
    cross_lt (digits_value_after 10 (n * 10 + dy) ys) (digits_value_after 10 (n * 10 + dx) xs) (10 ^ length ys) (10 ^ length xs) (n * 10 + dx + 1) (n * 10 + dy)
    (some_power (length ys)) (most_after (n * 10 + dx) xs all) (omega (arith, h)) (least_after (n * 10 + dy) ys)

-- ---- the first digits that differ

digit_in : (x : ℕ) (xs : List ℕ) → AllDigits 10 (x ∷ xs) → digit_value x + 48 ≡ x
digit_in x xs all =
    let h = digit_at (x ∷ xs) 0 all (omega arith) in
    omega (arith, value_of_digit x h.0 h.1, h.0)

-- the same first digit makes no difference
same_first : (a b p q : ℕ) → nat_le (a * (q * 10)) (b * (p * 10)) ≡ nat_le (a * q) (b * p)
same_first a b p q =
    let one : a * (q * 10) ≡ a * q * 10 = omega arith in
    let two : b * (p * 10) ≡ b * p * 10 = omega arith in
    rw (one, two) (same_factor (a * q) (b * p) 10 (omega arith))

-- what a smaller and a greater first digit decide
smaller : (n x y : ℕ) (xs ys : List ℕ) → AllDigits 10 (x ∷ xs) → AllDigits 10 (y ∷ ys) → x < y
    → nat_le (digits_value_after 10 (n * 10 + digit_value x) xs * 10 ^ suc (length ys)) (digits_value_after 10 (n * 10 + digit_value y) ys * 10 ^ suc (length xs)) ≡ true
smaller n x y xs ys all also h =
    let a : ℕ = digits_value_after 10 (n * 10 + digit_value x) xs in
    let b : ℕ = digits_value_after 10 (n * 10 + digit_value y) ys in
    let digit : digit_value x < digit_value y = omega (arith, h, digit_in x xs all, digit_in y ys also) in
    let under : a * 10 ^ length ys < b * 10 ^ length xs = less n (digit_value x) (digit_value y) xs ys all.1 digit in
    rw (one_more y ys, one_more x xs)
    (same_first a b (10 ^ length xs) (10 ^ length ys) ∙ is_le (a * 10 ^ length ys) (b * 10 ^ length xs) (omega (arith, under)))

greater : (n x y : ℕ) (xs ys : List ℕ) → AllDigits 10 (x ∷ xs) → AllDigits 10 (y ∷ ys) → y < x
    → nat_le (digits_value_after 10 (n * 10 + digit_value x) xs * 10 ^ suc (length ys)) (digits_value_after 10 (n * 10 + digit_value y) ys * 10 ^ suc (length xs)) ≡ false
greater n x y xs ys all also h =
    let a : ℕ = digits_value_after 10 (n * 10 + digit_value x) xs in
    let b : ℕ = digits_value_after 10 (n * 10 + digit_value y) ys in
    let digit : digit_value y < digit_value x = omega (arith, h, digit_in x xs all, digit_in y ys also) in
    let under : b * 10 ^ length xs < a * 10 ^ length ys = less n (digit_value y) (digit_value x) ys xs also.1 digit in
    rw (one_more y ys, one_more x xs)
    (same_first a b (10 ^ length xs) (10 ^ length ys) ∙ is_not_le (a * 10 ^ length ys) (b * 10 ^ length xs) under)

-- digits past an end are zeros
padded : (n x : ℕ) (xs : List ℕ)
    → nat_le (digits_value_after 10 (n * 10 + digit_value x) xs * 10 ^ suc 0) (digits_value_after 10 (n * 10 + digit_value 48) [] * 10 ^ suc (length xs))
    ≡ nat_le (digits_value_after 10 (n * 10 + digit_value x) xs * 1) (n * 10 ^ suc (length xs))
padded n x xs =
    let a : ℕ = digits_value_after 10 (n * 10 + digit_value x) xs in
    let p : ℕ = 10 ^ suc (length xs) in
    let one : a * 10 ^ suc 0 ≡ a * 1 * 10 = omega arith in
    let two : (n * 10 + digit_value 48) * p ≡ n * p * 10 = omega arith in
    rw (one, two) (same_factor (a * 1) (n * p) 10 (omega arith))

step : (n x y : ℕ) (xs ys : List ℕ) → AllDigits 10 (x ∷ xs) → AllDigits 10 (y ∷ ys)
    → in_order xs ys ≡ nat_le (digits_value_after 10 (n * 10 + digit_value x) xs * 10 ^ length ys) (digits_value_after 10 (n * 10 + digit_value x) ys * 10 ^ length xs)
    → cond (x == y) (in_order xs ys) (nat_lt x y)
    ≡ nat_le (digits_value_after 10 (n * 10 + digit_value x) xs * 10 ^ suc (length ys)) (digits_value_after 10 (n * 10 + digit_value y) ys * 10 ^ suc (length xs))
step n x y xs ys all also rest = by_same (x == y) refl
  where
    by_less : (t : Bool) → nat_lt x y ≡ t → (x == y) ≡ false
        → nat_lt x y
        ≡ nat_le (digits_value_after 10 (n * 10 + digit_value x) xs * 10 ^ suc (length ys)) (digits_value_after 10 (n * 10 + digit_value y) ys * 10 ^ suc (length xs))
    by_less true is not_same =
        let h : x < y = grind (arith, nat_tests) in
        is ∙ sym (smaller n x y xs ys all also h)
    by_less false is not_same =
        let h : y < x = grind (arith, nat_tests) in
        is ∙ sym (greater n x y xs ys all also h)

    by_same : (t : Bool) → (x == y) ≡ t → cond (x == y) (in_order xs ys) (nat_lt x y)
        ≡ nat_le (digits_value_after 10 (n * 10 + digit_value x) xs * 10 ^ suc (length ys)) (digits_value_after 10 (n * 10 + digit_value y) ys * 10 ^ suc (length xs))
    by_same true is =
        let same : y ≡ x = grind (arith, nat_tests) in
        rw (is, same, one_more y ys, one_more x xs)
        (rest ∙ sym (same_first (digits_value_after 10 (n * 10 + digit_value x) xs) (digits_value_after 10 (n * 10 + digit_value x) ys) (10 ^ length xs) (10 ^ length ys)))
    by_same false is = rw is (by_less (nat_lt x y) refl is)

pub in_order_is : (n : ℕ) (xs ys : List ℕ) → AllDigits 10 xs → AllDigits 10 ys
    → in_order xs ys ≡ nat_le (digits_value_after 10 n xs * 10 ^ length ys) (digits_value_after 10 n ys * 10 ^ length xs)
unfolding in_order
in_order_is n [] ys _ all =
    sym (is_le (n * 10 ^ length ys) (digits_value_after 10 n ys * 10 ^ 0) (omega (arith, least_after n ys)))
in_order_is n (x ∷ xs) [] all none =
    let zero_digit : AllDigits 10 (48 ∷ []) = (omega arith, tt) in
    step n x 48 xs [] all zero_digit (in_order_is (n * 10 + digit_value x) xs [] all.1 tt) ∙ padded n x xs
in_order_is n (x ∷ xs) (y ∷ ys) all also =
    step n x y xs ys all also (in_order_is (n * 10 + digit_value x) xs ys all.1 also.1)

-- ---- decimals

-- as many digits before the dot
pub same_whole : (a b : Number) → IsDecimal a → IsDecimal b → a.whole ≡ b.whole → in_order a.digits b.digits ≡ at_most a b
same_whole a b one two same =
    let va : ℕ = digits_value 10 a.digits in
    let vb : ℕ = digits_value 10 b.digits in
    let w : ℕ = 10 ^ a.whole in
    let pa : 10 ^ length a.digits ≡ 10 ^ places a * w =
    ap (λ n. 10 ^ n) (omega (arith, one.within)) ∙ pow-add 10 (places a) a.whole in
    let pb : 10 ^ length b.digits ≡ 10 ^ places b * w =
    ap (λ n. 10 ^ n) (omega (arith, two.within, same)) ∙ pow-add 10 (places b) a.whole in
    let left : va * (10 ^ places b * w) ≡ va * 10 ^ places b * w = omega arith in
    let right : vb * (10 ^ places a * w) ≡ vb * 10 ^ places a * w = omega arith in
    in_order_is 0 a.digits b.digits one.digits two.digits
    ∙ rw (pa, pb, left, right) (same_factor (va * 10 ^ places b) (vb * 10 ^ places a) w (omega (arith, some_power a.whole)))

-- a first digit other than zero counts
first_counts : (ds : List ℕ) → AllDigits 10 ds → 0 < length ds → 48 < slice_index ds 0 → 10 ^ (length ds - 1) ≤ digits_value 10 ds
first_counts [] all some first = absurd (omega arith)
first_counts (d ∷ ds) all some first =
    let p : ℕ = 10 ^ length ds in
    let one : 1 ≤ 0 * 10 + digit_value d = omega (arith, digit_in d ds all, first) in
    let more : 1 * p ≤ (0 * 10 + digit_value d) * p = mul-le-mul_right p one in
    let size : suc (length ds) - 1 ≡ length ds = omega arith in
    rw size (omega (arith, more, least_after (0 * 10 + digit_value d) ds))

-- more digits before the dot
more_whole : (a b : Number) → IsDecimal a → IsDecimal b → a.whole < b.whole
    → digits_value 10 a.digits * 10 ^ places b < digits_value 10 b.digits * 10 ^ places a
more_whole a b one two h =
    let va : ℕ = digits_value 10 a.digits in
    let vb : ℕ = digits_value 10 b.digits in
    let la : ℕ = length a.digits in
    let lb : ℕ = length b.digits in
    let pa : ℕ = places a in
    let pb : ℕ = places b in
    let under : va + 1 ≤ 10 ^ la = omega (arith, digits_value-lt 10 a.digits one.digits) in
    let over : 10 ^ (lb - 1) ≤ vb =
    first_counts b.digits two.digits (omega (arith, two.within, h)) (two.first (omega (arith, h))) in
    let first : (va + 1) * 10 ^ pb ≤ 10 ^ la * 10 ^ pb = mul-le-mul_right (10 ^ pb) under in
    let second : 10 ^ (la + pb) ≤ 10 ^ (lb - 1 + pa) =
    pow-le-pow_right (omega arith) (omega (arith, one.within, two.within, h)) in
    let third : 10 ^ (lb - 1) * 10 ^ pa ≤ vb * 10 ^ pa = mul-le-mul_right (10 ^ pa) over in
    omega (arith, first, second, third, pow-add 10 la pb, pow-add 10 (lb - 1) pa, some_power pb)

-- the number of digits before the dot decides
pub whole_decides : (a b : Number) → IsDecimal a → IsDecimal b → (a.whole == b.whole) ≡ false → nat_lt a.whole b.whole ≡ at_most a b
whole_decides a b one two not_same = by_less (nat_lt a.whole b.whole) refl
  where
    by_less : (t : Bool) → nat_lt a.whole b.whole ≡ t → nat_lt a.whole b.whole ≡ at_most a b
    by_less true is =
        let h : a.whole < b.whole = grind (arith, nat_tests) in
        is ∙ sym (is_le (digits_value 10 a.digits * 10 ^ places b) (digits_value 10 b.digits * 10 ^ places a) (omega (arith, more_whole a b one two h)))
    by_less false is =
        let h : b.whole < a.whole = grind (arith, nat_tests) in
        is ∙ sym (is_not_le (digits_value 10 a.digits * 10 ^ places b) (digits_value 10 b.digits * 10 ^ places a) (more_whole b a two one h))
