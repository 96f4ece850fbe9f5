-- The placeholders of a message (SARIF 2.1.0, "Messages with placeholders"). Strings are lists of characters here.
use Rattle.std.specs.Prelude.{ℕ, zero, suc, ◌+◌, ◌-◌, ◌*◌, Bool, false, not, ◌&&◌, ◌||◌, ◌==◌, nat_lt, List, [], ◌∷◌, ◌++◌, Option, Some, None, codes, chars, slice_get, option_and_then, unwrap_or, if◌then◌else◌}
use Rattle.std.specs.Char.{is_ascii_digit}
use Rattle.std.specs.Fmt.{decimal}
use Rattle.serde_json.specs.Data.{Data}
use Rattle.serde_json.specs.Find.{as_str}

-- a smaller number has at most eight digits
abbrev pub least_of_nine_digits : ℕ
least_of_nine_digits = 100000000

abbrev pub takes_digit : ℕ → ℕ → ℕ → Bool
takes_digit n count c = is_ascii_digit c && (nat_lt n least_of_nine_digits && (count == 0 || not (n == 0)))

-- the number before the next `}`, with its count of digits: at most nine digits, and no leading 0. n is the number
-- that the first `count` digits represent
abbrev pub index_from : ℕ → ℕ → List ℕ → Option (ℕ × ℕ)
index_from n count [] = None
index_from n count (c ∷ cs) =
    if c == 125 then (if count == 0 then None else Some (n, count)) else (
    if takes_digit n count c then index_from (n * 10 + (c - 48)) (count + 1) cs else None)

-- the placeholder with that number, as it is written in a message
abbrev pub placeholder : ℕ → List ℕ
placeholder n = codes "{" ++ (decimal n ++ codes "}")

abbrev pub argument_at : List Data → ℕ → Option (List ℕ)
argument_at args n = option_and_then as_str (slice_get args n)

-- the argument with that number; if that argument is missing or is not a string, the placeholder stays unchanged
abbrev pub argument_or_placeholder : List Data → ℕ → List ℕ
argument_or_placeholder args n = unwrap_or (argument_at args n) (placeholder n)

abbrev pub first_is : ℕ → List ℕ → Bool
first_is c [] = false
first_is c (d ∷ ds) = d == c

-- what is written for a `{` with such a number after it, and how many characters name it, the `}` too; with no such
-- number the `{` stays alone
abbrev pub written_for : List Data → Option (ℕ × ℕ) → List ℕ × ℕ
written_for args None = (123 ∷ [], 0)
written_for args (Some index) = (chars (argument_or_placeholder args index.0), index.1 + 1)

-- what is written for a character, and how many of those after it are part of the same placeholder
abbrev pub piece_of : List Data → ℕ → List ℕ → List ℕ × ℕ
piece_of args c cs =
    if c == 123 && not (first_is 123 cs) then written_for args (index_from 0 0 cs) else (
    if (c == 123 || c == 125) && first_is c cs then (c ∷ [], 1) else (c ∷ [], 0))

-- the text with its placeholders filled in, from left to right; the first `skip` characters are read already
abbrev pub filled_from : List Data → ℕ → List ℕ → List ℕ
filled_from args skip [] = []
filled_from args zero (c ∷ cs) =
    (piece_of args c cs).0 ++ filled_from args (piece_of args c cs).1 cs
filled_from args (suc skip) (c ∷ cs) = filled_from args skip cs

-- any other byte than `{` and `}`
abbrev pub is_unbraced : ℕ → Bool
is_unbraced b = not (b == 123 || b == 125)

-- without arguments nothing is filled in
abbrev pub filled : List Data → List ℕ → List ℕ
filled [] cs = cs
filled (d ∷ ds) cs = filled_from (d ∷ ds) 0 cs
