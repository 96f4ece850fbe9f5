-- How reports write the code of a result: in rows, or one line of it. Lines are bytes here.
use Rattle.std.specs.Prelude.{ℕ, ◌+◌, ◌-◌, ◌==◌, Bool, true, false, not, ◌&&◌, nat_lt, List, [], ◌∷◌, ◌++◌, length, map, find, replicate, slice_get, Option, Some, None, codes, is_some, option_and_then, unwrap_or, if◌then◌else◌}
use Rattle.std.specs.Fmt.{decimal}
use Rattle.std.specs.List.{enumerate_from}
use Rattle.std.specs.Option.{option_map_or, option_or}
use Rattle.sarif_findings.specs.declared.code.Code.{Code}

-- ---- rows

abbrev pub is_hit : Code → ℕ → Bool
is_hit code index = option_map_or (λ hit. hit == index) code.hit_line false

-- the number of the first row, if the rows have numbers: those of several lines that have numbers do
abbrev pub first_shown : Code → Option ℕ
first_shown code = if nat_lt 1 (length code.lines) then code.first_number else None

-- whether the row with that index has a mark
abbrev pub has_mark : Code → ℕ → Bool
has_mark code index = is_some (first_shown code) && is_hit code index

abbrev pub mark_of : Bool → List ℕ
mark_of true = codes "> "
mark_of false = codes "  "

-- set right in a column of that width
abbrev pub set_right : ℕ → List ℕ → List ℕ
set_right width digits = replicate (width - length digits) 32 ++ digits

-- how many digits the greatest number of the rows has
abbrev pub number_width : Code → ℕ → ℕ
number_width code first = length (decimal (first + (length code.lines - 1)))

-- what comes before the line in the row with that index
abbrev pub row_number : Code → ℕ → ℕ → List ℕ
row_number code first index =
    mark_of (is_hit code index)
    ++ (set_right (number_width code first) (decimal (first + index)) ++ codes " |")

-- a line after its number
abbrev pub after_number : List ℕ → List ℕ
after_number [] = []
after_number (b ∷ bs) = codes " " ++ (b ∷ bs)

abbrev pub row_from : Code → Option ℕ → ℕ → List ℕ → List ℕ
row_from code None index line = line
row_from code (Some first) index line = row_number code first index ++ after_number line

-- the row of a line, which has that index
abbrev pub row_of : Code → ℕ → List ℕ → List ℕ
row_of code index line = row_from code (first_shown code) index line

-- the rows of a code
abbrev pub rows_of : Code → List (List ℕ)
rows_of code = map (λ row. row_of code row.0 row.1) (enumerate_from 0 code.lines)

-- ---- one line

abbrev pub is_filled : List ℕ → Bool
is_filled line = not (length line == 0)

abbrev pub if_filled : List ℕ → Option (List ℕ)
if_filled line = if is_filled line then Some line else None

-- the line with that index, if it is there and not empty
abbrev pub filled_line : List (List ℕ) → Option ℕ → Option (List ℕ)
filled_line lines index = option_and_then if_filled (option_and_then (slice_get lines) index)

-- a line without the spaces that it begins with
abbrev pub without_spaces : List ℕ → List ℕ
without_spaces [] = []
without_spaces (b ∷ bs) = if b == 32 then without_spaces bs else b ∷ bs

-- the hit line, or if that is missing or empty the first line that isn't empty, without the spaces that it begins with
abbrev pub one_line : Code → List ℕ
one_line code =
    without_spaces (unwrap_or
    (option_or (filled_line code.lines code.hit_line) (find is_filled code.lines)) [])
