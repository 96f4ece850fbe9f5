-- Properties of the matches after all tiers.
use Rattle.std.proofs.Common.{◌≡◌, ◌≢◌, ℕ, ◌<◌, zero, suc, Bool, true, false, cond, not, ◌||◌, ◌⊎◌, inl, inr, ⊎_elim, List, [], ◌∷◌, ◌++◌, Option, Some, None, ◌==◌, length, fold, replicate, slice_index_or, slice_set, is_some, refl, sym, ap, ◌∙◌, arith, eq-eqb}
use mathlib.Core.Bool.{or-true}
use Rattle.std.proofs.Math.ListN.{length-set}
use Rattle.std.specs.Option.{option_map_or}
use Rattle.std.proofs.lemmas.List.{length-replicate}
use Rattle.std.proofs.lemmas.List.Sums.{fold-append}
use Rattle.std.proofs.lemmas.Bool.{true≢false, cases_lt}
use Rattle.std.proofs.lemmas.Bool.Decides.{eqb_tells}
use Rattle.std.proofs.lemmas.Option.{same_Some}
use Rattle.sarif_model.specs.declared.record.Record.{Record}
use Rattle.sarif_match.specs.declared.tier.Tier.{Tier}
use Rattle.sarif_match.specs.KeyParts.{KeyParts, same_parts}
use Rattle.sarif_match.specs.Internal.Fits.{Fits}
use Rattle.sarif_match.specs.Partners.{has_partner, is_taken, keyed_from, put_all, pairs_at, after_tier, partners_after, partners_of}
use Rattle.sarif_match.specs.Internal.Paired.{key_at, rank, IsPairedAt, ArePartners}
use Rattle.sarif_match.specs.Tiers.{tiers_of}
use Rattle.sarif_match.proofs.FitsLemmas.{Fits-pairs_at}
use Rattle.sarif_match.proofs.PairedLemmas.{pair-of, paired-of, stands_keyed}
use Rattle.sarif_match.proofs.PartsLemmas.{parts_refl}
use Rattle.sarif_match.proofs.PutLemmas.{slice_index_or-slice_set}
use Rattle.sarif_match.proofs.SplitLemmas.{HasPair, none_is_no_some, rank-split, rank-more}

module _ (partners : List (Option ℕ)) (p : ℕ × ℕ) (i j : ℕ) (within : p.0 < length partners) where
  at_place : slice_index_or (slice_set partners p.0 (Some p.1)) i None ≡ cond (p.0 == i) (Some p.1) (slice_index_or partners i None)
  at_place = slice_index_or-slice_set partners p.0 i (Some p.1) None within

  -- after one pair is added, a match is that pair or was there before
  one_put : slice_index_or (slice_set partners p.0 (Some p.1)) i None ≡ Some j → (p ≡ (i, j)) ⊎ (slice_index_or partners i None ≡ Some j)
  one_put found = ⊎_elim same other (eqb_tells p.0 i)
    where
      by_test : (b : Bool) → (p.0 == i) ≡ b → cond b (Some p.1) (slice_index_or partners i None) ≡ Some j
      by_test b is = sym (ap (λ (c : Bool). cond c (Some p.1) (slice_index_or partners i None)) is) ∙ sym at_place ∙ found

      same : ((p.0 == i) ≡ true) × (p.0 ≡ i) → (p ≡ (i, j)) ⊎ (slice_index_or partners i None ≡ Some j)
      same e =
          let from : p.0 ≡ i = e.1 in
          let to : p.1 ≡ j = same_Some p.1 j (by_test true e.0) in
          inl (λ k. (from k, to k))

      other : ((p.0 == i) ≡ false) × (p.0 ≢ i) → (p ≡ (i, j)) ⊎ (slice_index_or partners i None ≡ Some j)
      other e = inr (by_test false e.0)

  -- what was there stays
  kept_put : has_partner partners p.0 ≡ false → slice_index_or partners i None ≡ Some j → slice_index_or (slice_set partners p.0 (Some p.1)) i None ≡ Some j
  kept_put none was = ⊎_elim same other (eqb_tells p.0 i)
    where
      same : ((p.0 == i) ≡ true) × (p.0 ≡ i) → slice_index_or (slice_set partners p.0 (Some p.1)) i None ≡ Some j
      same e = absurd (true≢false (sym (ap is_some was) ∙ ap (has_partner partners) (sym e.1) ∙ none))

      other : ((p.0 == i) ≡ false) × (p.0 ≢ i) → slice_index_or (slice_set partners p.0 (Some p.1)) i None ≡ Some j
      other e = at_place ∙ ap (λ (b : Bool). cond b (Some p.1) (slice_index_or partners i None)) e.0 ∙ was

  -- the pair is there
  new_put : p ≡ (i, j) → slice_index_or (slice_set partners p.0 (Some p.1)) i None ≡ Some j
  new_put same =
      let at : (p.0 == i) ≡ true = eq-eqb p.0 i (ap (λ (q : ℕ × ℕ). q.0) same) in
      at_place ∙ ap (λ (b : Bool). cond b (Some p.1) (slice_index_or partners i None)) at ∙ ap (λ (q : ℕ × ℕ). Some q.1) same

put_tells : (m : ℕ) (partners : List (Option ℕ)) (ps : List (ℕ × ℕ)) (i j : ℕ) → Fits m partners ps
    → slice_index_or (put_all partners ps) i None ≡ Some j → (slice_index_or partners i None ≡ Some j) ⊎ HasPair ps i j
put_tells m partners [] i j fits found = inl found
put_tells m partners (p ∷ ps) i j fits found =
    ⊎_elim (λ here. ⊎_elim (λ same. inr (inl same)) (λ was. inl was) (one_put partners p i j fits.0 here)) (λ rest. inr (inr rest))
    (put_tells m (slice_set partners p.0 (Some p.1)) ps i j fits.3 found)

put_keeps : (m : ℕ) (partners : List (Option ℕ)) (ps : List (ℕ × ℕ)) (i j : ℕ) → Fits m partners ps
    → (slice_index_or partners i None ≡ Some j) ⊎ HasPair ps i j → slice_index_or (put_all partners ps) i None ≡ Some j
put_keeps m partners [] i j fits (inl was) = was
put_keeps m partners [] i j fits (inr h) = absurd h
put_keeps m partners (p ∷ ps) i j fits (inl was) =
    put_keeps m (slice_set partners p.0 (Some p.1)) ps i j fits.3 (inl (kept_put partners p i j fits.0 fits.1 was))
put_keeps m partners (p ∷ ps) i j fits (inr (inl same)) =
    put_keeps m (slice_set partners p.0 (Some p.1)) ps i j fits.3 (inl (new_put partners p i j fits.0 same))
put_keeps m partners (p ∷ ps) i j fits (inr (inr h)) =
    put_keeps m (slice_set partners p.0 (Some p.1)) ps i j fits.3 (inr h)

length-put_all : (partners : List (Option ℕ)) (ps : List (ℕ × ℕ)) → length (put_all partners ps) ≡ length partners
length-put_all partners [] = refl
length-put_all partners (p ∷ ps) =
    length-put_all (slice_set partners p.0 (Some p.1)) ps ∙ length-set partners p.0 (Some p.1)

pub is_taken-by : (partners : List (Option ℕ)) (i j : ℕ) → slice_index_or partners i None ≡ Some j → is_taken partners j ≡ true
is_taken-by [] i j found = absurd (none_is_no_some j found)
is_taken-by (x ∷ partners) zero j found =
    ap (λ (o : Option ℕ). option_map_or (λ (taken : ℕ). taken == j) o false || is_taken partners j) found
    ∙ ap (λ (b : Bool). b || is_taken partners j) (eq-eqb j j refl)
is_taken-by (x ∷ partners) (suc i) j found =
    ap (λ (b : Bool). option_map_or (λ (taken : ℕ). taken == j) x false || b) (is_taken-by partners i j found)
    ∙ or-true (option_map_or (λ (taken : ℕ). taken == j) x false)

module _ (current baseline : List Record) where
  -- after one more tier, matched results were matched before or match at it
  after_tells : (partners : List (Option ℕ)) (tier : Tier) (i j : ℕ) → length partners ≡ length current
      → slice_index_or (after_tier current baseline partners tier) i None ≡ Some j
      → (slice_index_or partners i None ≡ Some j) ⊎ IsPairedAt current baseline partners tier i j
  after_tells partners tier i j counted found =
      ⊎_elim (λ was. inl was) (λ h. inr (paired-of current baseline partners tier i j h))
      (put_tells (length baseline) partners (pairs_at current baseline partners tier) i j
      (Fits-pairs_at current baseline partners tier counted) found)

  after_keeps : (partners : List (Option ℕ)) (tier : Tier) (i j : ℕ) → length partners ≡ length current
      → (slice_index_or partners i None ≡ Some j) ⊎ IsPairedAt current baseline partners tier i j
      → slice_index_or (after_tier current baseline partners tier) i None ≡ Some j
  after_keeps partners tier i j counted h =
      put_keeps (length baseline) partners (pairs_at current baseline partners tier) i j
      (Fits-pairs_at current baseline partners tier counted)
      (⊎_elim (λ was. inl was) (λ paired. inr (pair-of current baseline partners tier i j paired)) h)

  pub after_counted : (partners : List (Option ℕ)) (tier : Tier) → length partners ≡ length current
      → length (after_tier current baseline partners tier) ≡ length current
  after_counted partners tier counted = length-put_all partners (pairs_at current baseline partners tier) ∙ counted

  -- the two match at one of these tiers, among the results that earlier tiers and the first matches left unmatched
  pub record ArePairedIn (partners : List (Option ℕ)) (tiers : List Tier) (i j : ℕ) : Type 0 where
    pub before : List Tier
    pub tier : Tier
    pub after : List Tier
    pub split : tiers ≡ before ++ (tier ∷ after)
    pub paired : IsPairedAt current baseline (fold (after_tier current baseline) partners before) tier i j

  later : (partners : List (Option ℕ)) (first : Tier) (tiers : List Tier) (i j : ℕ)
      → ArePairedIn (after_tier current baseline partners first) tiers i j → ArePairedIn partners (first ∷ tiers) i j
  later partners first tiers i j h = record {
    before = first ∷ h.before;
    tier = h.tier;
    after = h.after;
    split = ap (λ (ts : List Tier). first ∷ ts) h.split;
    paired = h.paired;
  }

  at_first : (partners : List (Option ℕ)) (first : Tier) (tiers : List Tier) (i j : ℕ) → IsPairedAt current baseline partners first i j
      → ArePairedIn partners (first ∷ tiers) i j
  at_first partners first tiers i j h =
      record { before = []; tier = first; after = tiers; split = refl; paired = h }

  all_tell : (tiers : List Tier) (partners : List (Option ℕ)) (i j : ℕ) → length partners ≡ length current
      → slice_index_or (fold (after_tier current baseline) partners tiers) i None ≡ Some j
      → (slice_index_or partners i None ≡ Some j) ⊎ ArePairedIn partners tiers i j
  all_tell [] partners i j counted found = inl found
  all_tell (t ∷ tiers) partners i j counted found =
      ⊎_elim
      (λ here. ⊎_elim (λ was. inl was) (λ paired. inr (at_first partners t tiers i j paired)) (after_tells partners t i j counted here))
      (λ rest. inr (later partners t tiers i j rest))
      (all_tell tiers (after_tier current baseline partners t) i j (after_counted partners t counted) found)

  pub all_keep_old : (tiers : List Tier) (partners : List (Option ℕ)) (i j : ℕ) → length partners ≡ length current
      → slice_index_or partners i None ≡ Some j → slice_index_or (fold (after_tier current baseline) partners tiers) i None ≡ Some j
  all_keep_old [] partners i j counted was = was
  all_keep_old (t ∷ tiers) partners i j counted was =
      all_keep_old tiers (after_tier current baseline partners t) i j (after_counted partners t counted) (after_keeps partners t i j counted (inl was))

  pub all_keep : (before : List Tier) (tier : Tier) (after : List Tier) (partners : List (Option ℕ)) (i j : ℕ)
      → length partners ≡ length current → IsPairedAt current baseline (fold (after_tier current baseline) partners before) tier i j
      → slice_index_or (fold (after_tier current baseline) partners (before ++ (tier ∷ after))) i None ≡ Some j
  all_keep [] tier after partners i j counted paired =
      all_keep_old after (after_tier current baseline partners tier) i j (after_counted partners tier counted)
      (after_keeps partners tier i j counted (inr paired))
  all_keep (t ∷ before) tier after partners i j counted paired =
      all_keep before tier after (after_tier current baseline partners t) i j (after_counted partners t counted) paired

  nobody : (n i j : ℕ) → slice_index_or (replicate n None) i None ≡ Some j → ⊥
  nobody zero i j found = none_is_no_some j found
  nobody (suc n) zero j found = none_is_no_some j found
  nobody (suc n) (suc i) j found = nobody n i j found

  -- a match after these tiers is one at one of them
  pub paired_in : (tiers : List Tier) (i j : ℕ) → slice_index_or (partners_after current baseline tiers) i None ≡ Some j
      → ArePairedIn (replicate (length current) None) tiers i j
  paired_in tiers i j found =
      ⊎_elim (λ was. absurd (nobody (length current) i j was)) (λ h. h)
      (all_tell tiers (replicate (length current) None) i j (length-replicate (length current) None) found)

  pub partners-are : (i j : ℕ) → slice_index_or (partners_of current baseline) i None ≡ Some j → ArePartners current baseline i j
  partners-are i j found =
      ⊎_elim (λ was. absurd (nobody (length current) i j was))
      (λ h. record { before = h.before; tier = h.tier; after = h.after; in_order = h.split; paired = h.paired })
      (all_tell (tiers_of current baseline) (replicate (length current) None) i j (length-replicate (length current) None) found)

  keyed_below : (rs : List Record) (tier : Tier) (j : ℕ) (key : KeyParts) → key_at tier rs j ≡ Some key → j < length rs
  keyed_below [] tier j key is = absurd (none_is_no_some key is)
  keyed_below (r ∷ rs) tier zero key is = omega arith
  keyed_below (r ∷ rs) tier (suc j) key is = let rest = keyed_below rs tier j key is in omega arith

  -- a match is one of the baseline results
  pub partner_below : (tiers : List Tier) (i j : ℕ) → slice_index_or (partners_after current baseline tiers) i None ≡ Some j → j < length baseline
  partner_below tiers i j found =
      ⊎_elim (λ was. absurd (nobody (length current) i j was)) (λ h. keyed_below baseline h.tier j h.paired.key h.paired.baseline_key)
      (all_tell tiers (replicate (length current) None) i j (length-replicate (length current) None) found)

  pub are-partners : (i j : ℕ) → ArePartners current baseline i j → slice_index_or (partners_of current baseline) i None ≡ Some j
  are-partners i j h =
      ap (λ (ts : List Tier). slice_index_or (fold (after_tier current baseline) (replicate (length current) None) ts) i None) h.in_order
      ∙ all_keep h.before h.tier h.after (replicate (length current) None) i j (length-replicate (length current) None) h.paired

  fold_counted : (tiers : List Tier) (partners : List (Option ℕ)) → length partners ≡ length current
      → length (fold (after_tier current baseline) partners tiers) ≡ length current
  fold_counted [] partners counted = counted
  fold_counted (t ∷ tiers) partners counted =
      fold_counted tiers (after_tier current baseline partners t) (after_counted partners t counted)

  pub after_counts : (before : List Tier) → length (partners_after current baseline before) ≡ length current
  after_counts before =
      fold_counted before (replicate (length current) None) (length-replicate (length current) None)

  last_tier : (before : List Tier) (tier : Tier) (i : ℕ) → slice_index_or (partners_after current baseline (before ++ (tier ∷ []))) i None
      ≡ slice_index_or (after_tier current baseline (partners_after current baseline before) tier) i None
  last_tier before tier i =
      ap (λ (ps : List (Option ℕ)). slice_index_or ps i None) (fold-append (after_tier current baseline) (replicate (length current) None) before (tier ∷ []))

  -- one tier adds exactly the results that match at it
  pub tier-tells : (before : List Tier) (tier : Tier) (i j : ℕ)
      → slice_index_or (partners_after current baseline (before ++ (tier ∷ []))) i None ≡ Some j
      → (slice_index_or (partners_after current baseline before) i None ≡ Some j) ⊎ IsPairedAt current baseline
      (partners_after current baseline before) tier i j
  tier-tells before tier i j found =
      after_tells (partners_after current baseline before) tier i j (after_counts before) (sym (last_tier before tier i) ∙ found)

  pub tier-adds : (before : List Tier) (tier : Tier) (i j : ℕ)
      → (slice_index_or (partners_after current baseline before) i None ≡ Some j) ⊎ IsPairedAt current baseline
      (partners_after current baseline before) tier i j
      → slice_index_or (partners_after current baseline (before ++ (tier ∷ []))) i None ≡ Some j
  tier-adds before tier i j h =
      last_tier before tier i ∙ after_keeps (partners_after current baseline before) tier i j (after_counts before) h

  -- no two results have the same match
  abbrev IsOneToOne : List (Option ℕ) → Type 0
  IsOneToOne partners =
      (i k j : ℕ) → slice_index_or partners i None ≡ Some j → slice_index_or partners k None ≡ Some j → i ≡ k

  rank-rises : (partners : List (Option ℕ)) (tier : Tier) (key : KeyParts) (i k : ℕ) → key_at tier current i ≡ Some key
      → has_partner partners i ≡ false → i < k
      → rank (λ n. not (has_partner partners n)) key i (keyed_from tier 0 current) < rank (λ n. not (has_partner partners n)) key k
      (keyed_from tier 0 current)
  rank-rises partners tier key i k is left lt =
      let test = λ (n : ℕ). not (has_partner partners n) in
      let s = stands_keyed tier 0 i i current key (omega arith) is in
      let here = ap (rank test key i) s.split ∙ rank-split same_parts test key i key s.before s.after s.below s.above in
      let there = ap (rank test key k) s.split in
      let more = rank-more same_parts test key i k key s.before s.after s.below lt (ap not left) (parts_refl key) in
      omega (arith, here, there, more)

  pub paired_once : (partners : List (Option ℕ)) (tier : Tier) (i k j : ℕ) → IsPairedAt current baseline partners tier i j
      → IsPairedAt current baseline partners tier k j → i ≡ k
  paired_once partners tier i k j a b =
      let test = λ (n : ℕ). not (has_partner partners n) in
      let same : b.key ≡ a.key = same_Some b.key a.key (sym b.baseline_key ∙ a.baseline_key) in
      let b_key : key_at tier current k ≡ Some a.key = b.current_key ∙ ap Some same in
      let ranks : rank test a.key i (keyed_from tier 0 current) ≡ rank test a.key k (keyed_from tier 0 current) = a.ranks
      ∙ ap (λ (key : KeyParts). rank (λ n. not (is_taken partners n)) key j (keyed_from tier 0 baseline)) (sym same) ∙ sym b.ranks
      ∙ ap (λ (key : KeyParts). rank test key k (keyed_from tier 0 current)) same in
      ⊎_elim (λ lt. absurd (omega (arith, ranks, rank-rises partners tier a.key i k a.current_key a.current_left lt)))
      (λ ge. ⊎_elim (λ lt. absurd (omega (arith, ranks, rank-rises partners tier a.key k i b_key b.current_left lt)))
      (λ le. omega (arith, ge, le)) (cases_lt k i)) (cases_lt i k)

  once_after : (partners : List (Option ℕ)) (tier : Tier) → length partners ≡ length current → IsOneToOne partners
      → IsOneToOne (after_tier current baseline partners tier)
  once_after partners tier counted once i k j at_i at_k =
      ⊎_elim
      (λ was_i. ⊎_elim (λ was_k. once i k j was_i was_k)
      (λ new_k. absurd (true≢false (sym (is_taken-by partners i j was_i) ∙ new_k.baseline_left)))
      (after_tells partners tier k j counted at_k))
      (λ new_i. ⊎_elim (λ was_k. absurd (true≢false (sym (is_taken-by partners k j was_k) ∙ new_i.baseline_left)))
      (λ new_k. paired_once partners tier i k j new_i new_k) (after_tells partners tier k j counted at_k))
      (after_tells partners tier i j counted at_i)

  once_all : (tiers : List Tier) (partners : List (Option ℕ)) → length partners ≡ length current → IsOneToOne partners
      → IsOneToOne (fold (after_tier current baseline) partners tiers)
  once_all [] partners counted once = once
  once_all (t ∷ tiers) partners counted once =
      once_all tiers (after_tier current baseline partners t) (after_counted partners t counted) (once_after partners t counted once)

  pub once_after_tiers : (tiers : List Tier) (i k j : ℕ) → slice_index_or (partners_after current baseline tiers) i None ≡ Some j
      → slice_index_or (partners_after current baseline tiers) k None ≡ Some j → i ≡ k
  once_after_tiers tiers =
      once_all tiers (replicate (length current) None) (length-replicate (length current) None) (λ i k j found _. absurd (nobody (length current) i j found))

  pub partners-once : (i k j : ℕ) → slice_index_or (partners_of current baseline) i None ≡ Some j
      → slice_index_or (partners_of current baseline) k None ≡ Some j → i ≡ k
  partners-once = once_after_tiers (tiers_of current baseline)
