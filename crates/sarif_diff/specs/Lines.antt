-- The lines of a diff.
use Rattle.std.specs.Prelude.{ℕ, ◌-◌, Bool, nat_eq, List, [], ◌∷◌, length, take, drop, if◌then◌else◌}
use Rattle.std.specs.List.{starts_with, ends_with}
use Rattle.sarif_diff.specs.Pieces.{pieces_at}

-- whether a line begins with this word, or ends with it
abbrev pub begins : List ℕ → List ℕ → Bool
begins line word = starts_with nat_eq line word

abbrev pub ends : List ℕ → List ℕ → Bool
ends line word = ends_with nat_eq line word

-- what follows a word of that length
abbrev pub past : List ℕ → List ℕ → List ℕ
past line word = drop (length word) line

-- a diff without the byte order mark that it may begin with
abbrev pub without_mark : List ℕ → List ℕ
without_mark bytes = if begins bytes (239 ∷ 187 ∷ 191 ∷ []) then drop 3 bytes else bytes

-- a line without the carriage return that it may end with
abbrev pub trimmed : List ℕ → List ℕ
trimmed line = if ends line (13 ∷ []) then take (length line - 1) line else line

-- the lines, each without the line feed that ends it; the last may lack it
abbrev pub lines_of : List ℕ → List (List ℕ)
lines_of bytes = pieces_at 10 bytes

-- the first of these lines, or the empty one if there is none
abbrev pub first_line : List (List ℕ) → List ℕ
first_line [] = []
first_line (line ∷ lines) = line
