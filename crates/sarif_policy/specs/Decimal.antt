-- Decimals, such as `7.0`, and their order as numbers.
use Rattle.std.specs.Prelude.{ℕ, ◌+◌, ◌-◌, ◌*◌, ◌^◌, ◌<◌, ◌≤◌, ◌==◌, Bool, true, ◌&&◌, nat_le, nat_lt, List, [], ◌∷◌, ◌++◌, length, take, drop, position, Option, Some, None, slice_index, if◌then◌else◌}
use Rattle.std.specs.List.{list_all}
use Rattle.std.specs.Str.Parse.{AllDigits, digits_value}

-- the digits of a decimal, and how many of them are before the dot
pub record Number : Type 0 where
  pub digits : List ℕ
  pub whole : ℕ

-- ---- the order

-- how many digits are after the dot
abbrev pub places : Number → ℕ
places a = length a.digits - a.whole

-- one is at most the other, as fractions: the number of all digits, over ten to the power of the places
abbrev pub at_most : Number → Number → Bool
at_most a b =
    nat_le (digits_value 10 a.digits * 10 ^ places b) (digits_value 10 b.digits * 10 ^ places a)

-- ---- the string

abbrev pub is_digit : ℕ → Bool
is_digit b = nat_le 48 b && nat_le b 57

-- one digit or more, and nothing else
abbrev pub are_digits : List ℕ → Bool
are_digits text = nat_lt 0 (length text) && list_all is_digit text

-- what is before the first dot, and what is after it, if there is one
abbrev pub cut_at : List ℕ → Option ℕ → List ℕ × Option (List ℕ)
cut_at text None = (text, None)
cut_at text (Some n) = (take n text, Some (drop (n + 1) text))

abbrev pub parts_of : List ℕ → List ℕ × Option (List ℕ)
parts_of text = cut_at text (position (λ b. b == 46) text)

-- digits without leading zeros
unfoldable pub without_zeros : List ℕ → List ℕ
without_zeros [] = []
without_zeros (b ∷ bs) = if b == 48 then without_zeros bs else b ∷ bs

-- the decimal with these digits before and after the dot
abbrev pub number_with : List ℕ → List ℕ → Number
number_with whole fraction = record {
  digits = without_zeros whole ++ fraction;
  whole = length (without_zeros whole);
}

abbrev pub if_digits : List ℕ → Option (List ℕ) → Option Number
if_digits whole None = if are_digits whole then Some (number_with whole []) else None
if_digits whole (Some fraction) =
    if are_digits whole && are_digits fraction then Some (number_with whole fraction) else None

-- the decimal that a string represents: digits, or digits, a dot and digits; otherwise none
abbrev pub decimal_of : List ℕ → Option Number
decimal_of text = let parts = parts_of text in if_digits parts.0 parts.1

-- ---- what is true for each decimal

-- the digits before the dot don't begin with a zero
pub record IsDecimal (a : Number) : Type 0 where
  pub digits : AllDigits 10 a.digits
  pub within : a.whole ≤ length a.digits
  pub first : 0 < a.whole → 48 < slice_index a.digits 0

-- ---- the order, digit by digit

-- the first of these digits, or a zero past their end
abbrev pub next_of : List ℕ → ℕ
next_of [] = 48
next_of (b ∷ bs) = b

-- the first digits that differ decide; digits past an end are zeros
unfoldable pub in_order : List ℕ → List ℕ → Bool
in_order [] ys = true
in_order (x ∷ xs) ys = if x == next_of ys then in_order xs (drop 1 ys) else nat_lt x (next_of ys)
