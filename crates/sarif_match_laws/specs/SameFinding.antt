-- What an unchanged result and its match have in common in version 3.
use Rattle.std.specs.Prelude.{◌≡◌, ◌≢◌, ◌⊎◌, ℕ, List, ◌∷◌, ◌++◌, true, Option, Some, None, length, option_and_then, slice_get, slice_index_or}
use Rattle.sarif_model.specs.declared.record.Record.{Record}
use Rattle.sarif_match.specs.declared.tier.Tier.{Tier}
use Rattle.sarif_evidence.specs.declared.version.MatchingVersion.{MatchingVersion}
use Rattle.sarif_evidence.specs.declared.version.MatchingVersion.TheVariants.{Three}
use Rattle.sarif_evidence.specs.Evidence.{has_other_evidence}
use Rattle.sarif_match.specs.Partners.{from_end, partners_after, partners_in, seen_from_end}
use Rattle.sarif_evidence.specs.Seen.{seen}
use Rattle.sarif_evidence.specs.State.{IsUnchanged}
use Rattle.sarif_match.specs.Tiers.{tiers_in}
use Rattle.sarif_match.specs.Internal.Paired.{IsPairedAt}

-- the match of current result i in a version, if it has one
abbrev pub match_in : MatchingVersion → List Record → List Record → ℕ → Option Record
match_in version current baseline i =
    option_and_then (slice_get baseline)
    (slice_index_or (partners_in version current baseline) i None)

-- Tool, kind, effective level, message and place are the same. Two snippets are the same, too. If one is missing, there is
-- other evidence.
pub record AreTheSame (current partner : Record) : Type 0 where
  pub tool : current.tool ≡ partner.tool
  pub unchanged : IsUnchanged current partner
  pub snippets : (snippet other : List ℕ) → (seen current).snippet ≡ Some snippet
      → (seen partner).snippet ≡ Some other → snippet ≡ other
  pub evidence : ((seen current).snippet ≡ None) ⊎ ((seen partner).snippet ≡ None)
      → has_other_evidence (seen current) (seen partner) ≡ true

-- both results have a snippet, and the two are not the same
pub record HaveUnlikeSnippets (current partner : Record) : Type 0 where
  pub snippet : List ℕ
  pub other : List ℕ
  pub current_is : (seen current).snippet ≡ Some snippet
  pub partner_is : (seen partner).snippet ≡ Some other
  pub unlike : snippet ≢ other

-- Current result i and baseline result j match at this tier in version 3, among the results that earlier tiers left
-- unmatched: both lists are in reverse order there.
pub record AreMatchedAt (current baseline : List Record) (tier : Tier) (i j : ℕ) : Type 0 where
  pub before : List Tier
  pub after : List Tier
  pub in_order : tiers_in Three current baseline ≡ before ++ (tier ∷ after)
  pub paired : IsPairedAt (seen_from_end current) (seen_from_end baseline)
      (partners_after (seen_from_end current) (seen_from_end baseline) before) tier
      (from_end (length current) i) (from_end (length baseline) j)
