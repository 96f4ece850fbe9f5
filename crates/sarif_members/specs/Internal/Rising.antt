-- Names with their strings, each name greater than the one before it.
use Rattle.std.specs.Prelude.{◌-◌, ℕ, Bool, true, false, List, [], ◌∷◌, Option, Some, None, length, slice_get}
use Rattle.std.specs.Ordering.{nat_cmp, match_ordering}
use Rattle.std.specs.Cmp.Lexicographic.{slice_cmp}
use Rattle.serde_json.specs.Data.{string, Members, no_members, member}
use Rattle.sarif_members.specs.Fingerprints.{Pair}

-- the object with these strings
abbrev pub strings_of : List Pair → Members
strings_of [] = no_members
strings_of (p ∷ pairs) = member p.0 (string p.1) (strings_of pairs)

-- whether a name is greater than that of a pair, if there is one
abbrev pub is_above : List ℕ → Option Pair → Bool
is_above name None = true
is_above name (Some p) = match_ordering (slice_cmp nat_cmp p.0 name) true false false

-- whether a name is greater than the last of these
abbrev pub is_past : List ℕ → List Pair → Bool
is_past name pairs = is_above name (slice_get pairs (length pairs - 1))
