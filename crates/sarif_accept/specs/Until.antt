-- The facts about the GUID of a record, and what an expiry date must be.
use Rattle.std.specs.Prelude.{◌≡◌, ℕ, ◌<◌, ◌≤◌, ◌^◌, true, Option, Some, IfSome}
use Rattle.sarif_model.specs.declared.record.Record.{Record}
use Rattle.sarif_entries.specs.Entries.{is_day}

-- a GUID has 128 bits (RFC 9562)
abbrev pub HasGuid : Record → Type 0
HasGuid r = IfSome r.guid (λ guid. guid < 2 ^ 128)

-- an expiry date is a date, and today's date is known
abbrev pub IsDated : Option ℕ → Option ℕ → Type 0
IsDated today until =
    IfSome until (λ last. (is_day last ≡ true) × (day : ℕ) × (today ≡ Some day))

-- the expiry date is a date, and it is not before today
abbrev pub IsUntil : Option ℕ → Option ℕ → Type 0
IsUntil today until =
    IfSome until (λ last. (is_day last ≡ true) × (day : ℕ) × (today ≡ Some day) × (day ≤ last))
