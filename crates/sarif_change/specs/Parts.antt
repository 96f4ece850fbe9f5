-- The parts of a path. Paths are compared from their ends, so a path is turned: its last byte is the first. Its parts are
-- those of the turned path, the last part first.
use Rattle.std.specs.Prelude.{ℕ, Bool, true, ◌&&◌, ◌||◌, ◌==◌, List, [], ◌∷◌, length, map, reverse, bytes_eq, codes, if◌then◌else◌}
use Rattle.std.specs.Char.{to_ascii_lowercase}
use Rattle.sarif_diff.specs.Pieces.{pieces_at}

-- a byte as paths are compared: `\` and `:` are treated as `/`, and a capital letter as the small one
abbrev pub plain : ℕ → ℕ
plain b = if b == 92 || b == 58 then 47 else to_ascii_lowercase b

abbrev pub turned : List ℕ → List ℕ
turned path = reverse (map plain path)

-- the pieces between slashes; one after the last slash counts only if it isn't empty
abbrev pub pieces_of : List ℕ → List (List ℕ)
pieces_of path = pieces_at 47 path

-- whether a piece is `..`, or is empty or `.`
abbrev pub is_up : List ℕ → Bool
is_up piece = bytes_eq piece (codes "..")

abbrev pub is_here : List ℕ → Bool
is_here piece = length piece == 0 || bytes_eq piece (codes ".")

-- the parts after the last `..`, without empty ones and `.`
unfoldable pub parts_after_up : List (List ℕ) → List (List ℕ)
parts_after_up [] = []
parts_after_up (piece ∷ pieces) =
    if is_up piece then [] else if is_here piece then parts_after_up pieces else piece ∷ parts_after_up pieces

-- a folder has no parts: its last piece is empty, `.` or `..`
abbrev pub is_folder : List (List ℕ) → Bool
is_folder [] = true
is_folder (last ∷ pieces) = is_up last || is_here last

abbrev pub parts_in : List (List ℕ) → List (List ℕ)
parts_in pieces = if is_folder pieces then [] else parts_after_up pieces

abbrev pub parts_of : List ℕ → List (List ℕ)
parts_of path = parts_in (pieces_of (turned path))

-- whether the parts of one end with those of the other
abbrev pub end_alike : List (List ℕ) → List (List ℕ) → Bool
end_alike [] qs = true
end_alike (p ∷ ps) [] = true
end_alike (p ∷ ps) (q ∷ qs) = bytes_eq p q && end_alike ps qs
