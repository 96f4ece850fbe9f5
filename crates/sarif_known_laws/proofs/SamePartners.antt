-- Matching and states don't depend on a result's own suppressions.
use Rattle.std.proofs.Common.{◌≡◌, ℕ, zero, suc, List, [], ◌∷◌, ◌++◌, map, fold, length, Option, Some, None, option_map, refl, sym, ap, ap₂, ◌∙◌}
use Rattle.std.specs.Prelude.{option_and_then, reverse, slice_get}
use Rattle.sarif_model.specs.declared.record.Record.{Record}
use Rattle.sarif_match.specs.declared.tier.Tier.{Tier}
use Rattle.sarif_match.specs.declared.tier.Tier.TheVariants.{Guid, Same, SameText, FingerprintHere, Fingerprint, PartialHere, PartialMoved, PlaceText, Place, PlaceLeft}
use Rattle.sarif_match.specs.Key.{key_of}
use Rattle.sarif_match.specs.KeyParts.{same_parts}
use Rattle.sarif_match.specs.Pairing.{pairs_from}
use Rattle.sarif_evidence.specs.declared.version.MatchingVersion.{MatchingVersion}
use Rattle.sarif_evidence.specs.declared.version.MatchingVersion.TheVariants.{Two, Three}
use Rattle.sarif_evidence.specs.Evidence.{state_in}
use Rattle.sarif_match.specs.Partners.{after_tier, free, keyed_from, left, partners_after, partners_in, partners_of, put_all, seen_from_end, turned, with_key}
use Rattle.sarif_evidence.specs.Seen.{seen}
use Rattle.sarif_match.specs.Tiers.{falling_names, finer_tiers, names_of, tiers_of, with_names}
use Rattle.sarif_known.specs.Laws.{without_own}

same_key : (tier : Tier) (r : Record) → key_of (without_own r) tier ≡ key_of r tier
same_key Guid r = refl
same_key (Fingerprint name) r = refl
same_key PartialHere r = refl
same_key PartialMoved r = refl
same_key Place r = refl
same_key Same r = refl
same_key SameText r = refl
same_key (FingerprintHere name) r = refl
same_key PlaceText r = refl
same_key PlaceLeft r = refl

same_keyed : (tier : Tier) (n : ℕ) (bs : List Record) → keyed_from tier n (map without_own bs) ≡ keyed_from tier n bs
same_keyed tier n [] = refl
same_keyed tier n (b ∷ bs) = ap₂ (λ key keyed. with_key n key keyed) (same_key tier b) (same_keyed tier (suc n) bs)

same_names : (bs : List Record) → names_of (map without_own bs) ≡ names_of bs
same_names [] = refl
same_names (b ∷ bs) = ap (λ l. map (λ pair. pair.0) b.full ++ l) (same_names bs)

same_tiers : (cs bs : List Record) → tiers_of cs (map without_own bs) ≡ tiers_of cs bs
same_tiers cs bs =
    ap
    (λ names. Guid
    ∷ (map Fingerprint (Rattle.std.specs.Prelude.reverse (with_names (with_names [] (names_of cs)) names)) ++ PartialHere
    ∷ (PartialMoved ∷ (Place ∷ [])))) (same_names bs)

same_tier : (cs bs : List Record) (partners : List (Option ℕ)) (tier : Tier) → after_tier cs (map without_own bs) partners tier ≡ after_tier cs bs partners tier
same_tier cs bs partners tier =
    ap (λ keyed. put_all partners (pairs_from same_parts [] (left partners (keyed_from tier 0 cs)) (free partners keyed))) (same_keyed tier 0 bs)

same_fold : (cs bs : List Record) (partners : List (Option ℕ)) (tiers : List Tier)
    → fold (after_tier cs (map without_own bs)) partners tiers ≡ fold (after_tier cs bs) partners tiers
same_fold cs bs partners [] = refl
same_fold cs bs partners (tier ∷ tiers) =
    ap (λ p. fold (after_tier cs (map without_own bs)) p tiers) (same_tier cs bs partners tier) ∙ same_fold cs bs (after_tier cs bs partners tier) tiers

bare_partners : (cs bs : List Record) → partners_of cs (map without_own bs) ≡ partners_of cs bs
bare_partners cs bs =
    ap (fold (after_tier cs (map without_own bs)) (Rattle.std.specs.Prelude.replicate (length cs) None)) (same_tiers cs bs)
    ∙ same_fold cs bs (Rattle.std.specs.Prelude.replicate (length cs) None) (tiers_of cs bs)

same_seen : (bs : List Record) → map seen (map without_own bs) ≡ map seen bs
same_seen [] = refl
same_seen (b ∷ bs) = ap (λ l. seen b ∷ l) (same_seen bs)

same_long : (bs : List Record) → length (map without_own bs) ≡ length bs
same_long [] = refl
same_long (b ∷ bs) = ap suc (same_long bs)

bare_in : (v : MatchingVersion) (cs bs : List Record) → partners_in v cs (map without_own bs) ≡ partners_in v cs bs
bare_in Two cs bs = bare_partners cs bs
bare_in Three cs bs =
    ap₂ (λ n others. turned n (partners_after (seen_from_end cs) (reverse others) (finer_tiers (falling_names (map seen cs) others))))
    (same_long bs) (same_seen bs)

-- baselines whose records are equal except for their own suppressions give the same matches
pub same_partners : (v : MatchingVersion) (cs bs others : List Record) → map without_own bs ≡ map without_own others
    → partners_in v cs bs ≡ partners_in v cs others
same_partners v cs bs others are = sym (bare_in v cs bs) ∙ ap (partners_in v cs) are ∙ bare_in v cs others

bare_at : (bs : List Record) (i : ℕ) → slice_get (map without_own bs) i ≡ option_map without_own (slice_get bs i)
bare_at [] i = refl
bare_at (b ∷ bs) zero = refl
bare_at (b ∷ bs) (suc i) = bare_at bs i

bare_state : (v : MatchingVersion) (r : Record) (o : Option Record) → state_in v r (option_map without_own o) ≡ state_in v r o
bare_state Two r None = refl
bare_state Two r (Some b) = refl
bare_state Three r None = refl
bare_state Three r (Some b) = refl

-- and the same states
pub same_states : (v : MatchingVersion) (r : Record) (bs others : List Record) (partner : Option ℕ) → map without_own bs ≡ map without_own others
    → state_in v r (option_and_then (slice_get bs) partner) ≡ state_in v r (option_and_then (slice_get others) partner)
same_states v r bs others None are = refl
same_states v r bs others (Some j) are =
    sym (bare_state v r (slice_get bs j)) ∙ ap (state_in v r) (sym (bare_at bs j) ∙ ap (λ l. slice_get l j) are ∙ bare_at others j)
    ∙ bare_state v r (slice_get others j)
