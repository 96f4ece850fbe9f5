-- Lines of no bytes.
use Rattle.std.proofs.Common.{◌≡◌, ℕ, List, [], ◌∷◌, length, drop, refl, arith}
use Rattle.sarif_diff.specs.Lines.{lines_of, first_line}
use Rattle.sarif_diff.specs.Pieces.{pieces_at}

pub no_lines : (bytes : List ℕ) → length bytes ≡ 0 → lines_of bytes ≡ drop 1 (lines_of bytes)
unfolding pieces_at
no_lines [] none = refl
no_lines (b ∷ bs) none = absurd (omega arith)

pub no_line : (bytes : List ℕ) → length bytes ≡ 0 → bytes ≡ first_line (lines_of bytes)
unfolding pieces_at
no_line [] none = refl
no_line (b ∷ bs) none = absurd (omega arith)
