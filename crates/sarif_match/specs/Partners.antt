-- Which baseline result each current result is paired with, tier by tier.
use Rattle.std.specs.Prelude.{ℕ, suc, List, [], ◌∷◌, Bool, false, not, Option, Some, None, ◌==◌, ◌-◌, filter, fold, length, map, option_map, replicate, reverse, is_some, slice_index_or, slice_set}
use Rattle.std.specs.List.{list_any}
use Rattle.std.specs.Option.{option_map_or}
use Rattle.sarif_model.specs.declared.record.Record.{Record}
use Rattle.sarif_match.specs.declared.tier.Tier.{Tier}
use Rattle.sarif_evidence.specs.declared.version.MatchingVersion.{MatchingVersion}
use Rattle.sarif_evidence.specs.declared.version.MatchingVersion.TheVariants.{Two, Three}
use Rattle.sarif_match.specs.Key.{key_of}
use Rattle.sarif_match.specs.KeyParts.{KeyParts, same_parts}
use Rattle.sarif_match.specs.Pairing.{pairs_from}
use Rattle.sarif_evidence.specs.Seen.{seen}
use Rattle.sarif_match.specs.Tiers.{tiers_in, tiers_of}

-- the results, with one more at the front where it has a key
abbrev pub with_key : {K : Type 0} → ℕ → Option K → List (ℕ × K) → List (ℕ × K)
with_key n None keyed = keyed
with_key n (Some key) keyed = (n, key) ∷ keyed

-- the results that have a key at a tier, with their numbers; the first result has number n
abbrev pub keyed_from : Tier → ℕ → List Record → List (ℕ × KeyParts)
keyed_from tier n [] = []
keyed_from tier n (r ∷ rs) = with_key n (key_of r tier) (keyed_from tier (suc n) rs)

-- Matches are a list: for each current result the number of a baseline result, or none.

-- whether current result i has a match
abbrev pub has_partner : List (Option ℕ) → ℕ → Bool
has_partner partners i = is_some (slice_index_or partners i None)

-- whether baseline result j is the match of a current result
abbrev pub is_taken : List (Option ℕ) → ℕ → Bool
is_taken partners j =
    list_any (λ partner. option_map_or (λ taken. taken == j) partner false) partners

-- the current results that are left over
abbrev pub left : {K : Type 0} → List (Option ℕ) → List (ℕ × K) → List (ℕ × K)
left partners keyed = filter (λ e. not (has_partner partners e.0)) keyed

-- the baseline results that are left over
abbrev pub free : {K : Type 0} → List (Option ℕ) → List (ℕ × K) → List (ℕ × K)
free partners keyed = filter (λ e. not (is_taken partners e.0)) keyed

-- the matches, with each of these pairs added
abbrev pub put_all : List (Option ℕ) → List (ℕ × ℕ) → List (Option ℕ)
put_all partners [] = partners
put_all partners (pair ∷ pairs) = put_all (slice_set partners pair.0 (Some pair.1)) pairs

module _ (current baseline : List Record) where
  -- the pairs of a tier: equal keys, and equal ranks among what the tiers before have left over
  abbrev pub pairs_at : List (Option ℕ) → Tier → List (ℕ × ℕ)
  pairs_at partners tier =
      pairs_from same_parts []
      (left partners (keyed_from tier 0 current)) (free partners (keyed_from tier 0 baseline))

  -- the matches after one more tier
  abbrev pub after_tier : List (Option ℕ) → Tier → List (Option ℕ)
  after_tier partners tier = put_all partners (pairs_at partners tier)

  -- the matches after these tiers
  abbrev pub partners_after : List Tier → List (Option ℕ)
  partners_after tiers = fold after_tier (replicate (length current) None) tiers

  -- the match of each current result in version 2
  abbrev pub partners_of : List (Option ℕ)
  partners_of = partners_after (tiers_of current baseline)

-- Version 3 counts ranks from the end: it is the same matching over both lists in reverse order.

-- the number of a result in the list of `count` results in reverse order
abbrev pub from_end : ℕ → ℕ → ℕ
from_end count number = count - 1 - number

-- the matches of two lists, given those of the lists in reverse order; the baseline has `count` results
abbrev pub turned : ℕ → List (Option ℕ) → List (Option ℕ)
turned count partners = reverse (map (option_map (from_end count)) partners)

-- the results of a list as version 3 sees them, in reverse order
abbrev pub seen_from_end : List Record → List Record
seen_from_end rs = reverse (map seen rs)

-- the match of each current result in a version
abbrev pub partners_in : MatchingVersion → List Record → List Record → List (Option ℕ)
partners_in Two current baseline = partners_of current baseline
partners_in Three current baseline =
    turned (length baseline)
    (partners_after (seen_from_end current) (seen_from_end baseline)
    (tiers_in Three current baseline))
