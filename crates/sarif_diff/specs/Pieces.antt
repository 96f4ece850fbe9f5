-- The pieces of bytes that are cut at each separator, as lines are at line feeds.
use Rattle.std.specs.Prelude.{ℕ, ◌==◌, List, [], ◌∷◌, if◌then◌else◌}

-- these pieces with one more byte at their front
abbrev pub with_byte : ℕ → List (List ℕ) → List (List ℕ)
with_byte b [] = (b ∷ []) ∷ []
with_byte b (piece ∷ pieces) = (b ∷ piece) ∷ pieces

-- the pieces, each without the separator that ends it; the last may lack it
unfoldable pub pieces_at : ℕ → List ℕ → List (List ℕ)
pieces_at separator [] = []
pieces_at separator (b ∷ bs) =
    if b == separator then [] ∷ pieces_at separator bs
    else with_byte b (pieces_at separator bs)
