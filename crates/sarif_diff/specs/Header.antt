-- The header of a hunk: `@@ -L[,S] +C[,D] @@`, then anything.
use Rattle.std.specs.Prelude.{ℕ, ◌+◌, ◌*◌, ◌-◌, Bool, not, ◌&&◌, ◌||◌, nat_le, ◌==◌, List, [], ◌∷◌, length, drop, Option, Some, None, option_map, option_and_then, codes, if◌then◌else◌}
use Rattle.std.specs.Char.{is_ascii_digit}
use Rattle.sarif_diff.specs.Lines.{begins}
use Rattle.sarif_diff.specs.declared.header.Range.{Range}

-- the greatest number of a line
abbrev pub last_line : ℕ
last_line = 4294967295

-- a number with one more digit at its end
abbrev pub with_digit : Option ℕ → ℕ → ℕ
with_digit None b = b - 48
with_digit (Some n) b = n * 10 + (b - 48)

-- a number and what follows it, if it has a digit
abbrev pub ended : Option ℕ → List ℕ → Option (ℕ × List ℕ)
ended so_far rest = option_map (λ n. (n, rest)) so_far

-- the number that goes on with these digits, and what follows them; none if it is greater than the last line's
unfoldable pub number_from : Option ℕ → List ℕ → Option (ℕ × List ℕ)
number_from so_far [] = ended so_far []
number_from so_far (b ∷ bs) =
    if not (is_ascii_digit b) then ended so_far (b ∷ bs)
    else if nat_le (with_digit so_far b) last_line then number_from (Some (with_digit so_far b)) bs else None

-- lines of a file: the number of the first, and how many; and what follows a comma and the second, which may be missing
abbrev pub counted : ℕ × List ℕ → Option (Range × List ℕ)
counted first =
    if begins first.1 (44 ∷ []) then
    option_map (λ count. (record { first = first.0; count = count.0 }, count.1)) (number_from None (drop 1 first.1))
    else Some (record { first = first.0; count = 1 }, first.1)

abbrev pub range_of : List ℕ → Option (Range × List ℕ)
range_of text = option_and_then counted (number_from None text)

-- the lines that follow this word
abbrev pub range_after : List ℕ → List ℕ → Option (Range × List ℕ)
range_after word text = if begins text word then range_of (drop (length word) text) else None

-- whether the lines of a range have numbers of lines
abbrev pub is_within : Range → Bool
is_within r = r.count == 0 || (nat_le 1 r.first && nat_le (r.first + r.count) (last_line + 1))

abbrev pub are_lines : Range → Range → Bool
are_lines old new = is_within old && is_within new && not (old.count == 0 && new.count == 0)

-- the old and the new lines
abbrev pub with_new : Range → Range × List ℕ → Option (Range × Range)
with_new old new = if begins new.1 (codes " @@") && are_lines old new.0 then Some (old, new.0) else None

abbrev pub with_old : Range × List ℕ → Option (Range × Range)
with_old old = option_and_then (with_new old.0) (range_after (codes " +") old.1)

-- the old and the new lines of a hunk with this header
abbrev pub ranges_of : List ℕ → Option (Range × Range)
ranges_of line = option_and_then with_old (range_after (codes "@@ -") line)
