-- Tokens that form a whole value.
use Rattle.std.specs.Prelude.{◌≡◌, ℕ, List, [], Some}
use Rattle.json.specs.Token.{Token}
use Rattle.json.specs.Json.{Json, value}

-- the tokens are those of this value, and no more
abbrev pub IsWhole : List Token → Json → Type 0
IsWhole ts j = (depth : ℕ) × (value depth ts ≡ Some (j, []))
