-- Numbered bodies, in the order of their numbers.
use Rattle.std.specs.Prelude.{ℕ, ◌+◌, ◌==◌, ◌&&◌, nat_le, Bool, true, List, [], ◌∷◌, is_some}
use Rattle.std.specs.Ordering.{nat_cmp}
use Rattle.std.specs.BTreeMap.{is_at}
use Rattle.std.specs.Map.{lookup}

module _ {T : Type 0} where
  -- one of the bodies has this number
  abbrev pub has_number : ℕ → List (ℕ × T) → Bool
  has_number k es = is_some (lookup (is_at (nat_cmp k)) es)

  -- no number is below n
  abbrev pub all_from : ℕ → List (ℕ × T) → Bool
  all_from n [] = true
  all_from n (e ∷ es) = nat_le n e.0 && all_from n es

  -- the numbers are n, n + 1 and so on, up to `count` and without it
  abbrev pub counts_up : ℕ → ℕ → List (ℕ × T) → Bool
  counts_up n count [] = n == count
  counts_up n count (e ∷ es) = (e.0 == n) && counts_up (n + 1) count es
