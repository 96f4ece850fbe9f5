-- Which results an entry of the suppression file matches.
use Rattle.std.specs.Prelude.{◌≡◌, ℕ, ◌≤◌, Bool, true, false, not, ◌&&◌, List, [], ◌∷◌, Option, Some, None, Contains, nat_eq, nat_lt}
use Rattle.std.specs.List.{list_all, list_any}
use Rattle.sarif_model.specs.declared.record.Record.{Record}
use Rattle.sarif_entries.specs.declared.condition.Condition.{Condition}
use Rattle.sarif_entries.specs.declared.entry.Entry.{Entry}
use Rattle.sarif_entries.specs.declared.limit.Limit.{Limit}
use Rattle.sarif_entries.specs.Condition.{holds, Holds}

abbrev pub is_empty : {A : Type 0} → List A → Bool
is_empty [] = true
is_empty (x ∷ xs) = false

-- every condition is true for the result
abbrev pub hold : List Condition → Record → Bool
hold cs r = list_all (λ c. holds c r) cs

-- the expiry date is before today; an entry without an expiry date, or without today's date, does not expire
abbrev pub is_past : Option ℕ → Option ℕ → Bool
is_past None last = false
is_past (Some today) None = false
is_past (Some today) (Some last) = nat_lt last today

abbrev pub is_expired : Option ℕ → Entry → Bool
is_expired today e = is_past today e.expires

-- the entry isn't expired, and every condition that it names holds
abbrev pub is_met : Option ℕ → Entry → Record → Bool
is_met today e r = not (is_expired today e) && hold e.conditions r

-- the entry has no `max`, or it admits the result
abbrev pub is_admitted : Option Limit → Record → Bool
is_admitted None r = true
is_admitted (Some limit) r = list_any (λ n. nat_eq n limit.number) r.admitted

-- the entry admits the result, isn't expired, and every condition that it names holds
abbrev pub matches : Option ℕ → Entry → Record → Bool
matches today e r = is_admitted e.limit r && is_met today e r

-- ---- the same as propositions

-- the result meets every condition
abbrev pub Meets : List Condition → Record → Type 0
Meets cs r = (c : Condition) → Contains cs c → Holds c r

-- the expiry date of the entry, if it has one, is not before today, the result satisfies its conditions, and an entry with
-- `max` admits the result
pub record Matches (today : Option ℕ) (e : Entry) (r : Record) : Type 0 where
  pub in_time : (last day : ℕ) → e.expires ≡ Some last → today ≡ Some day → day ≤ last
  pub meets : Meets e.conditions r
  pub admits : (limit : Limit) → e.limit ≡ Some limit → Contains r.admitted limit.number
