-- Matching in version 2 doesn't depend on regions and snippets.
use Rattle.std.proofs.Common.{◌≡◌, ℕ, suc, true, List, [], ◌∷◌, ◌++◌, map, fold, length, replicate, reverse, Option, None, refl, sym, ap, ap₂, ◌∙◌}
use Rattle.std.specs.List.{AllByRecursion}
use Rattle.std.proofs.lemmas.List.{length-map}
use Rattle.sarif_model.specs.declared.record.Record.{Record}
use Rattle.sarif_match.specs.declared.tier.Tier.{Tier}
use Rattle.sarif_match.specs.declared.tier.Tier.TheVariants.{Guid, Fingerprint, PartialHere, PartialMoved, Place}
use Rattle.sarif_match.specs.Key.{key_of}
use Rattle.sarif_match.specs.KeyParts.{same_parts}
use Rattle.sarif_match.specs.Pairing.{pairs_from}
use Rattle.sarif_match.specs.Partners.{after_tier, free, keyed_from, left, partners_of, put_all, with_key}
use Rattle.sarif_match.specs.Tiers.{falling_names, names_of, tiers_of, with_names}
use Rattle.sarif_known.specs.Chosen.{known_as}
use Rattle.sarif_known_laws.proofs.BareRecords.{bare}

-- a tier that depends on neither regions nor snippets
abbrev IsBlind : Tier → Type 0
IsBlind tier = (r : Record) → key_of (bare r) tier ≡ key_of r tier

bare_keyed : (tier : Tier) → IsBlind tier → (n : ℕ) (rs : List Record) → keyed_from tier n (map bare rs) ≡ keyed_from tier n rs
bare_keyed tier blind n [] = refl
bare_keyed tier blind n (r ∷ rs) = ap₂ (λ key keyed. with_key n key keyed) (blind r) (bare_keyed tier blind (suc n) rs)

bare_names : (rs : List Record) → names_of (map bare rs) ≡ names_of rs
bare_names [] = refl
bare_names (r ∷ rs) = ap (λ l. map (λ pair. pair.0) r.full ++ l) (bare_names rs)

names_blind : (names : List (List ℕ)) → AllByRecursion IsBlind (map Fingerprint names ++ PartialHere ∷ (PartialMoved ∷ (Place ∷ [])))
names_blind [] = ((λ r. refl), ((λ r. refl), ((λ r. refl), tt)))
names_blind (name ∷ names) = ((λ r. refl), names_blind names)

module _ (cs bs : List Record) where
  bare_tiers : tiers_of (map bare cs) (map bare bs) ≡ tiers_of cs bs
  bare_tiers =
      ap₂
      (λ first second. Guid
      ∷ (map Fingerprint (reverse (with_names (with_names [] first) second)) ++ PartialHere ∷ (PartialMoved ∷ (Place ∷ []))))
      (bare_names cs) (bare_names bs)

  bare_tier : (partners : List (Option ℕ)) (tier : Tier) → IsBlind tier
      → after_tier (map bare cs) (map bare bs) partners tier ≡ after_tier cs bs partners tier
  bare_tier partners tier blind =
      ap₂ (λ keyed others. put_all partners (pairs_from same_parts [] (left partners keyed) (free partners others)))
      (bare_keyed tier blind 0 cs) (bare_keyed tier blind 0 bs)

  bare_fold : (partners : List (Option ℕ)) (tiers : List Tier) → AllByRecursion IsBlind tiers
      → fold (after_tier (map bare cs) (map bare bs)) partners tiers ≡ fold (after_tier cs bs) partners tiers
  bare_fold partners [] blind = refl
  bare_fold partners (tier ∷ tiers) blind =
      ap (λ p. fold (after_tier (map bare cs) (map bare bs)) p tiers) (bare_tier partners tier blind.0)
      ∙ bare_fold (after_tier cs bs partners tier) tiers blind.1

  -- both sides without regions and snippets are matched the same
  pub bare_both : partners_of (map bare cs) (map bare bs) ≡ partners_of cs bs
  bare_both =
      ap₂ (λ n tiers. fold (after_tier (map bare cs) (map bare bs)) (replicate n None) tiers) (length-map cs bare) bare_tiers
      ∙ bare_fold (replicate (length cs) None) (tiers_of cs bs) ((λ r. refl), names_blind (falling_names cs bs))

twice_bare : (rs : List Record) → map bare (map bare rs) ≡ map bare rs
twice_bare [] = refl
twice_bare (r ∷ rs) = ap (λ l. bare r ∷ l) (twice_bare rs)

-- current results without regions and snippets are matched the same
pub bare_current : (cs bs : List Record) → partners_of (map bare cs) bs ≡ partners_of cs bs
bare_current cs bs =
    sym (bare_both (map bare cs) bs) ∙ ap (λ l. partners_of l (map bare bs)) (twice_bare cs) ∙ bare_both cs bs

-- with regions and snippets nothing changes
pub all_kept : (rs : List Record) → map (known_as true) rs ≡ rs
all_kept [] = refl
all_kept (r ∷ rs) = ap (λ l. r ∷ l) (all_kept rs)
