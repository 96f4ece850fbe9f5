-- Members in the order of their names.
use Rattle.std.specs.Prelude.{ℕ, List, [], ◌∷◌, Bool, true, false, not, Option, Some, None, ◌&&◌, ◌==◌, bytes_eq, length, if◌then◌else◌}
use Rattle.std.specs.Ordering.{is_lt, nat_cmp}
use Rattle.std.specs.Cmp.Lexicographic.{slice_cmp}

-- whether the name before, if there is one, is below this one
abbrev pub is_below : Option (List ℕ) → List ℕ → Bool
is_below None name = true
is_below (Some before) name = is_lt (slice_cmp nat_cmp before name)

-- whether the names of these members rise strictly after the name before
abbrev pub rises_from : Option (List ℕ) → List (List ℕ × List ℕ) → Bool
rises_from before [] = true
rises_from before (member ∷ members) =
    is_below before member.0 && rises_from (Some member.0) members

-- the members from the first one on whose name isn't below this one
abbrev pub from_name : List ℕ → List (List ℕ × List ℕ) → List (List ℕ × List ℕ)
from_name name [] = []
from_name name (member ∷ members) =
    if is_lt (slice_cmp nat_cmp member.0 name) then from_name name members else member ∷ members

-- whether the first of these members is filled, and is this one
abbrev pub begins_with : List ℕ × List ℕ → List (List ℕ × List ℕ) → Bool
begins_with member [] = false
begins_with member (first ∷ members) =
    not (length first.1 == 0) && (bytes_eq first.0 member.0 && bytes_eq first.1 member.1)
