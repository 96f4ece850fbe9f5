-- What version 3 calls unchanged has the same snippet, or equal keys at a tier of version 2.
use Rattle.std.specs.Prelude.{◌≡◌, ℕ, List, [], ◌∷◌, Bool, true, false, Some, None}
use Rattle.sarif_model.specs.declared.record.Record.{Record}
use Rattle.sarif_match.specs.declared.tier.Tier.{Tier}
use Rattle.sarif_match.specs.declared.tier.Tier.TheVariants.{Guid, Fingerprint, PartialHere, PartialMoved, Place}
use Rattle.sarif_match.specs.Key.{key_of, value_of}
use Rattle.sarif_match.specs.KeyParts.{KeyParts}

-- whether version 2 has this tier, too
abbrev pub is_of_two : Tier → Bool
is_of_two Guid = true
is_of_two (Fingerprint name) = true
is_of_two PartialHere = true
is_of_two PartialMoved = true
is_of_two Place = true
is_of_two _ = false

-- no two members have one name
abbrev pub HasEachNameOnce : List (List ℕ × List ℕ) → Type 0
HasEachNameOnce [] = Unit {0}
HasEachNameOnce (m ∷ ms) = (value_of m.0 ms ≡ None) × HasEachNameOnce ms

-- both have a snippet, and it is the same one
pub record HaveSameSnippet (current partner : Record) : Type 0 where
  pub snippet : List ℕ
  pub current_is : current.snippet ≡ Some snippet
  pub partner_is : partner.snippet ≡ Some snippet

-- the two have equal keys at a tier of version 2
pub record AreEqualInTwo (current partner : Record) : Type 0 where
  pub tier : Tier
  pub key : KeyParts
  pub of_two : is_of_two tier ≡ true
  pub current_key : key_of current tier ≡ Some key
  pub partner_key : key_of partner tier ≡ Some key
