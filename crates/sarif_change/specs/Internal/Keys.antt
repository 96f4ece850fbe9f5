-- The parts of a path as bytes: each part, and a slash.
use Rattle.std.specs.Prelude.{ℕ, Bool, true, false, not, ◌&&◌, ◌||◌, ◌==◌, List, [], ◌∷◌, ◌++◌, if◌then◌else◌}
use Rattle.std.specs.List.{list_all}
use Rattle.sarif_change.specs.Parts.{is_here}

abbrev pub joined : List (List ℕ) → List ℕ
joined [] = []
joined (part ∷ parts) = part ++ 47 ∷ joined parts

-- what a piece adds to a key: nothing if it is empty or `.`
abbrev pub part_key : List ℕ → List ℕ
part_key piece = if is_here piece then [] else piece ++ 47 ∷ []

abbrev pub has_no_slash : List ℕ → Bool
has_no_slash part = list_all (λ b. not (b == 47)) part

-- whether the first key begins with the second
abbrev pub opens : List ℕ → List ℕ → Bool
opens xs [] = true
opens [] (y ∷ ys) = false
opens (x ∷ xs) (y ∷ ys) = y == x && opens xs ys

-- whether one of two keys begins with the other
abbrev pub alike : List ℕ → List ℕ → Bool
alike xs ys = opens xs ys || opens ys xs
