-- Which results match in version 3, in the words of the rule: ranks count from the end.
use Rattle.std.specs.Prelude.{◌≡◌, ℕ, suc, List, ◌∷◌, ◌++◌, Bool, false, Option, Some, drop}
use Rattle.std.specs.Option.{option_map_or}
use Rattle.sarif_model.specs.declared.record.Record.{Record}
use Rattle.sarif_match.specs.declared.tier.Tier.{Tier}
use Rattle.sarif_evidence.specs.declared.version.MatchingVersion.TheVariants.{Three}
use Rattle.sarif_match.specs.Key.{key_in}
use Rattle.sarif_match.specs.KeyParts.{KeyParts, same_parts}
use Rattle.sarif_match.specs.Partners.{has_partner, is_taken}
use Rattle.sarif_match.specs.Tiers.{tiers_in}
use Rattle.sarif_match_laws.specs.Leaving.{count_left, partners_by}
use Rattle.sarif_match.specs.Internal.Paired.{key_in_at}

-- whether a result has this key at a tier in version 3
abbrev pub has_key : Tier → KeyParts → Record → Bool
has_key tier key r = option_map_or (λ own. same_parts own key) (key_in Three r tier) false

-- how many of these results after number i are not done and have this key
abbrev pub rank_from_end : (ℕ → Bool) → Tier → KeyParts → ℕ → List Record → ℕ
rank_from_end is_done tier key i rs = count_left (has_key tier key) is_done (suc i) (drop (suc i) rs)

-- Current result i and baseline result j match at a tier of version 3: both are left over, their keys are there and
-- equal, and as many left-over current results with that key follow i as left-over baseline results with it follow j.
pub record IsPairedFromEnd (current baseline : List Record) (partners : List (Option ℕ)) (tier : Tier)
    (i j : ℕ) : Type 0 where
  pub key : KeyParts
  pub current_key : key_in_at Three tier current i ≡ Some key
  pub baseline_key : key_in_at Three tier baseline j ≡ Some key
  pub current_left : has_partner partners i ≡ false
  pub baseline_left : is_taken partners j ≡ false
  pub ranks : rank_from_end (has_partner partners) tier key i current
      ≡ rank_from_end (is_taken partners) tier key j baseline

-- The two match at one tier, among the results that earlier tiers left unmatched.
pub record ArePartnersFromEnd (current baseline : List Record) (i j : ℕ) : Type 0 where
  pub before : List Tier
  pub tier : Tier
  pub after : List Tier
  pub in_order : tiers_in Three current baseline ≡ before ++ (tier ∷ after)
  pub paired : IsPairedFromEnd current baseline (partners_by before current baseline) tier i j
