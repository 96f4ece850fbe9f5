-- Pairs that can be added one by one.
use Rattle.std.specs.Prelude.{◌≡◌, ℕ, ◌<◌, List, [], ◌∷◌, Option, Some, false, length, slice_set}
use Rattle.sarif_match.specs.Partners.{has_partner}

-- each pair consists of a current result without a match and one of m baseline results
abbrev pub Fits : ℕ → List (Option ℕ) → List (ℕ × ℕ) → Type 0
Fits m partners [] = Unit {0}
Fits m partners (pair ∷ pairs) =
    (pair.0 < length partners)
    × (has_partner partners pair.0 ≡ false)
    × (pair.1 < m)
    × Fits m (slice_set partners pair.0 (Some pair.1)) pairs
