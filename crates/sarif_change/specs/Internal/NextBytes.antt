-- What follows what several keys begin with.
use Rattle.std.specs.Prelude.{ℕ, zero, suc, Bool, ◌&&◌, ◌||◌, List, [], ◌∷◌, nat_le, nat_lt}
use Rattle.sarif_change.specs.declared.next.NextBytes.{NextBytes}

-- what follows the first n bytes of a key: 0 if it ends there, otherwise the byte plus 1
abbrev pub next_at : ℕ → List ℕ → ℕ
next_at n [] = 0
next_at zero (x ∷ xs) = suc x
next_at (suc n) (x ∷ xs) = next_at n xs

-- whether what follows the first n bytes of a key is one of these
abbrev pub is_next : NextBytes → ℕ → List ℕ → Bool
is_next next n key = nat_le next.least (next_at n key) && nat_le (next_at n key) next.most

-- whether each key goes on, and none with this byte
abbrev pub leaves_out : NextBytes → ℕ → Bool
leaves_out next byte = nat_lt 0 next.least && (nat_lt byte next.least || nat_lt next.most byte)
