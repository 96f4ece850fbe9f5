-- What an explanation says about a line of a diff.
use Rattle.std.specs.Prelude.{ℕ, zero, suc, ◌-◌, ◌==◌, List, [], ◌∷◌, ◌++◌, chars, codes, decimal, if◌then◌else◌}
use Rattle.std.specs.Str.{is_utf8}
use Rattle.json_parts.specs.Mark.{without_mark}
use Rattle.sarif_model.specs.declared.merge_fault.At.{At}
use Rattle.sarif_model.specs.declared.merge_fault.At.TheVariants.{Line}
use Rattle.sarif_explain.specs.Internal.Lines.{line_of, most_of_a_value, shortened}

-- what follows the first line feed
unfoldable pub past_line : List ℕ → List ℕ
past_line [] = []
past_line (b ∷ bytes) = if b == 10 then bytes else past_line bytes

-- what follows that many line feeds
unfoldable pub past_lines : ℕ → List ℕ → List ℕ
past_lines zero bytes = bytes
past_lines (suc n) bytes = past_lines n (past_line bytes)

-- what is before the first line feed
unfoldable pub first_line : List ℕ → List ℕ
first_line [] = []
first_line (b ∷ bytes) = if b == 10 then [] else b ∷ first_line bytes

-- the line of that number, from 1, without its line feed; nothing after the last line
abbrev pub line_at : ℕ → List ℕ → List ℕ
line_at number bytes = first_line (past_lines (number - 1) bytes)

-- how a line is shown: its beginning, or that it has no bytes or isn't text
abbrev pub found_in : List ℕ → List ℕ
found_in [] = codes "nothing"
found_in (b ∷ bytes) =
    if is_utf8 (b ∷ bytes) then shortened most_of_a_value (chars (b ∷ bytes))
    else codes "bytes that are not UTF-8"

-- the number of the line at which an error is, and what was found there
abbrev pub spot_of : At → List ℕ → List ℕ
spot_of (Line number) bytes =
    line_of (codes "line") (decimal number)
    ++ line_of (codes "found") (found_in (line_at number (without_mark bytes)))
spot_of _ bytes = []
