-- What the dates of a request are to each other.
use Rattle.std.specs.Prelude.{◌≡◌, ◌≤◌, ℕ, true, Option, Some, IfSome}
use Rattle.sarif_entries.specs.Entries.{is_day}

-- an expiry date is a date, and today's date is known and not after it
abbrev pub IsNotPast : Option ℕ → Option ℕ → Type 0
IsNotPast today until =
    IfSome until (λ last. (is_day last ≡ true) × (day : ℕ) × (today ≡ Some day) × (day ≤ last))
