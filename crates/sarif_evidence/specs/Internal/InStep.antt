-- Lists that are compared element by element, from the front.
use Rattle.std.specs.Prelude.{ℕ, List, [], ◌∷◌, Option, Some, None, ◌&&◌, ◌==◌, bytes_eq, if◌then◌else◌}

-- what follows the first member, if it is this one
abbrev pub after_first_member : List ℕ × List ℕ → List (List ℕ × List ℕ)
    → Option (List (List ℕ × List ℕ))
after_first_member first [] = None
after_first_member first (member ∷ members) =
    if bytes_eq first.0 member.0 && bytes_eq first.1 member.1 then Some members else None

-- what follows the first byte, if it is this one
abbrev pub after_first_byte : ℕ → List ℕ → Option (List ℕ)
after_first_byte first [] = None
after_first_byte first (byte ∷ bytes) = if byte == first then Some bytes else None
