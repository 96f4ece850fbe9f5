-- Which results match, in the words of the rule.
use Rattle.std.specs.Prelude.{◌≡◌, ℕ, List, ◌∷◌, ◌++◌, Bool, false, not, ◌&&◌, Option, Some, filter, length, nat_lt, slice_get}
use Rattle.std.specs.Option.{option_and_then}
use Rattle.sarif_model.specs.declared.record.Record.{Record}
use Rattle.sarif_match.specs.declared.tier.Tier.{Tier}
use Rattle.sarif_evidence.specs.declared.version.MatchingVersion.{MatchingVersion}
use Rattle.sarif_match.specs.Key.{key_in, key_of}
use Rattle.sarif_match.specs.KeyParts.{KeyParts, same_parts}
use Rattle.sarif_match.specs.Partners.{has_partner, is_taken, keyed_from, partners_after}
use Rattle.sarif_match.specs.Tiers.{tiers_of}

-- the key of result i at a tier, if there is such a result and it has one
abbrev pub key_at : Tier → List Record → ℕ → Option KeyParts
key_at tier rs i = option_and_then (λ r. key_of r tier) (slice_get rs i)

-- the key of result i at a tier in a version, if there is such a result and it has one
abbrev pub key_in_at : MatchingVersion → Tier → List Record → ℕ → Option KeyParts
key_in_at version tier rs i = option_and_then (λ r. key_in version r tier) (slice_get rs i)

-- the number of these results before number i that are unmatched and have this key
abbrev pub rank : (ℕ → Bool) → KeyParts → ℕ → List (ℕ × KeyParts) → ℕ
rank is_left key i keyed =
    length (filter (λ e. nat_lt e.0 i && (is_left e.0 && same_parts e.1 key)) keyed)

-- Current result i and baseline result j are paired at a tier: both are left over, their keys are there and equal, and
-- as many left-over current results with that key precede i as left-over baseline results with it precede j.
pub record IsPairedAt (current baseline : List Record) (partners : List (Option ℕ)) (tier : Tier)
    (i j : ℕ) : Type 0 where
  pub key : KeyParts
  pub current_key : key_at tier current i ≡ Some key
  pub baseline_key : key_at tier baseline j ≡ Some key
  pub current_left : has_partner partners i ≡ false
  pub baseline_left : is_taken partners j ≡ false
  pub ranks : rank (λ n. not (has_partner partners n)) key i (keyed_from tier 0 current)
      ≡ rank (λ n. not (is_taken partners n)) key j (keyed_from tier 0 baseline)

-- Baseline result j is the match of current result i: the two match at one tier, among the results that earlier
-- tiers left unmatched.
pub record ArePartners (current baseline : List Record) (i j : ℕ) : Type 0 where
  pub before : List Tier
  pub tier : Tier
  pub after : List Tier
  pub in_order : tiers_of current baseline ≡ before ++ (tier ∷ after)
  pub paired : IsPairedAt current baseline (partners_after current baseline before) tier i j
