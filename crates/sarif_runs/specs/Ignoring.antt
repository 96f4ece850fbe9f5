-- Fingerprints without those of some names.
use Rattle.std.specs.Prelude.{ℕ, Bool, List, not, filter, bytes_eq}
use Rattle.std.specs.List.{list_any}

-- whether the name is one of these, byte for byte
abbrev pub is_among : List (List ℕ) → List ℕ → Bool
is_among names name = list_any (λ own. bytes_eq own name) names

-- the members that have none of these names
abbrev pub without_names : List (List ℕ) → List (List ℕ × List ℕ) → List (List ℕ × List ℕ)
without_names names members = filter (λ member. not (is_among names member.0)) members
