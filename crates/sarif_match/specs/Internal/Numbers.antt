-- Short records: a number replaces each value that is in the keys of many tiers.
use Rattle.std.specs.Prelude.{◌≡◌, ℕ, ◌<◌, List, [], ◌∷◌, Bool, true, Option, Some, None, length}
use Rattle.std.specs.Borrow.{Bor}
use Rattle.std.specs.Fmt.{decimal}
use Rattle.std.specs.HashMap.{get, HashMap, hash_map_len}
use Rattle.sarif_model.specs.declared.message.Message.{Message}
use Rattle.sarif_model.specs.declared.place.Place.{Place}
use Rattle.sarif_model.specs.declared.record.Record.{Record}
use Rattle.sarif_match.specs.declared.tier.Tier.{Tier}
use Rattle.sarif_match.specs.Partners.{partners_after}
use Rattle.sarif_match.specs.declared.numbers.Value.{Value}
use Rattle.sarif_match.specs.declared.numbers.Value.TheVariants.{Text as a_text, Place as a_place, Message as a_message, Members as some_members, Snippet as a_snippet}
use Rattle.sarif_match.specs.contracts.numbers.ValuePartialEq.TheImpl as derived

-- whether two values are equal, byte by byte
abbrev pub same_value : Value → Value → Bool
same_value = derived.ghosts.eq

abbrev pub lent : {X : Type 0} → X → Bor X
lent x = record { ref_ptr = (0, 0); now = x }

-- a place, a message and partial fingerprints that are written as a number
abbrev pub place_as : List ℕ → Place
place_as number = record { uri = Some number; base = None }

abbrev pub message_as : List ℕ → Message
message_as number = record { text = Some number; id = None; args = [] }

abbrev pub members_as : List ℕ → List (List ℕ × List ℕ)
members_as number = (number, number) ∷ []

-- a table of the numbers of values
abbrev pub Numbers : Type 0 → Type 0
Numbers S = HashMap Value (List ℕ) S

module _ {S : Type 0} where
  -- each value that is equal to this one has this number
  abbrev pub HasNumber : Numbers S → Value → List ℕ → Type 0
  HasNumber numbers value number = (q : Value) → same_value value q ≡ true → get same_value numbers q ≡ Some number

  -- only equal values have one number; the numbers are below that of the values
  pub record AreApart (numbers : Numbers S) : Type 0 where
    pub apart : (a b : Value) (number : List ℕ) → get same_value numbers a ≡ Some number
        → get same_value numbers b ≡ Some number → same_value a b ≡ true
    pub below : (a : Value) (number : List ℕ) → get same_value numbers a ≡ Some number
        → (n : ℕ) × (n < hash_map_len numbers) × (number ≡ decimal n)

  -- each value keeps its number
  pub record Grows (before after : Numbers S) : Type 0 where
    pub kept : (a : Value) (number : List ℕ) → get same_value before a ≡ Some number → get same_value after a ≡ Some number
    pub apart : AreApart before → AreApart after

  -- a value has a number, and something is made of it
  abbrev pub IsNumbered : {X : Type 0} → Numbers S → Value → (List ℕ → X) → X → Type 0
  IsNumbered numbers value make short =
      (number : List ℕ) × (get same_value numbers value ≡ Some number) × (short ≡ make number)

  -- partial fingerprints as a number, unless there are none
  abbrev pub AreShortMembers : Numbers S → List (List ℕ × List ℕ) → List (List ℕ × List ℕ) → Type 0
  AreShortMembers numbers [] short = short ≡ []
  AreShortMembers numbers (m ∷ ms) short = IsNumbered numbers (some_members (lent (m ∷ ms))) members_as short

  -- a snippet as a number, if there is one
  abbrev pub IsShortSnippet : Numbers S → Option (List ℕ) → Option (List ℕ) → Type 0
  IsShortSnippet numbers None short = short ≡ None
  IsShortSnippet numbers (Some text) short = IsNumbered numbers (a_snippet (lent text)) Some short

  -- the record with numbers for its tool, rule, place, message, partial fingerprints and snippet
  pub record IsShort (numbers : Numbers S) (r short : Record) : Type 0 where
    pub tool : get same_value numbers (a_text (lent r.tool)) ≡ Some short.tool
    pub rule_id : get same_value numbers (a_text (lent r.rule_id)) ≡ Some short.rule_id
    pub place : IsNumbered numbers (a_place (lent r.place)) place_as short.place
    pub message : IsNumbered numbers (a_message (lent r.message)) message_as short.message
    pub guid : short.guid ≡ r.guid
    pub full : short.full ≡ r.full
    pub partial : AreShortMembers numbers r.partial short.partial
    pub region : short.region ≡ r.region
    pub snippet : IsShortSnippet numbers r.snippet short.snippet

  -- each record of a list, and the short one
  abbrev pub AreShort : Numbers S → List Record → List Record → Type 0
  AreShort numbers [] [] = Unit {0}
  AreShort numbers [] (s ∷ ss) = ⊥
  AreShort numbers (r ∷ rs) [] = ⊥
  AreShort numbers (r ∷ rs) (s ∷ ss) = IsShort numbers r s × AreShort numbers rs ss

-- two lists are matched as two others are, tier by tier
pub record AreMatchedAlike (current baseline others more : List Record) : Type 0 where
  pub currents : length current ≡ length others
  pub baselines : length baseline ≡ length more
  pub partners : (tiers : List Tier) → partners_after current baseline tiers ≡ partners_after others more tiers
