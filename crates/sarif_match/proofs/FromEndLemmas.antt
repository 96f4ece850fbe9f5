-- A matching by version 3, made of one of both lists in reverse order.
use Rattle.std.proofs.Common.{◌≡◌, ℕ, ◌≤◌, Bool, List, Option, length, sym, ap, ◌∙◌, subst, arith}
use Rattle.sarif_model.specs.declared.record.Record.{Record}
use Rattle.sarif_match.specs.declared.tier.Tier.{Tier}
use Rattle.sarif_evidence.specs.declared.version.MatchingVersion.TheVariants.{Three}
use Rattle.sarif_match.specs.Tiers.{tiers_in}
use Rattle.sarif_match.specs.Partners.{partners_after, partners_in, seen_from_end, turned}
use Rattle.sarif_match.specs.Internal.Numbers.{AreMatchedAlike}
use Rattle.sarif_match.specs.Internal.Turned.{AreBelow}
use Rattle.sarif_match.proofs.TurnedLemmas.{length-seen, partners_below}

module _ (current baseline : List Record) (tiers : List Tier) (cs bs : List Record) (partners : List (Option ℕ)) (marks : List Bool) where
  module _ (alike : AreMatchedAlike cs bs (seen_from_end current) (seen_from_end baseline))
      (told : partners ≡ partners_after cs bs tiers) (marked : length marks ≡ length bs) where
    pub below_marks : AreBelow (length marks) partners
    below_marks =
        subst (λ (m : ℕ). AreBelow m partners) (sym marked) (subst (AreBelow (length bs)) (sym told) (partners_below cs bs tiers))

    counted : length marks ≡ length baseline
    counted = marked ∙ alike.baselines ∙ length-seen baseline

    pub few_marks : (most : ℕ) → length baseline ≤ most → length marks ≤ most
    few_marks most few = omega (arith, counted, few)

    pub turned_is : tiers ≡ tiers_in Three current baseline → turned (length marks) partners ≡ partners_in Three current baseline
    turned_is in_order =
        ap (λ (m : ℕ). turned m partners) counted
        ∙ ap (turned (length baseline))
        (told ∙ alike.partners tiers ∙ ap (partners_after (seen_from_end current) (seen_from_end baseline)) in_order)

module _ (current baseline cs bs : List Record) (alike : AreMatchedAlike cs bs (seen_from_end current) (seen_from_end baseline)) where
  pub few_currents : (most : ℕ) → length current ≤ most → length cs ≤ most
  few_currents most few = omega (arith, alike.currents, length-seen current, few)

  pub few_baselines : (most : ℕ) → length baseline ≤ most → length bs ≤ most
  few_baselines most few = omega (arith, alike.baselines, length-seen baseline, few)
