-- After all tiers no two results that are left over have equal keys at one of them.
use Rattle.std.proofs.Common.{◌≡◌, ℕ, ◌<◌, zero, suc, Bool, true, false, not, ◌⊎◌, inl, inr, ⊎_elim, List, [], ◌∷◌, ◌++◌, Option, Some, None, ◌==◌, length, is_some, replicate, slice_get, slice_index_or, refl, sym, ap, ◌∙◌, subst, arith, append_assoc}
use Rattle.std.specs.Option.{option_map_or}
use Rattle.std.proofs.lemmas.Bool.{false≢true, true≢false, or_cases}
use Rattle.std.proofs.lemmas.Bool.Decides.{Decides-eqb}
use Rattle.std.proofs.lemmas.List.{length-replicate}
use Rattle.std.proofs.lemmas.List.Sums.{fold-append}
use Rattle.sarif_model.specs.declared.record.Record.{Record}
use Rattle.sarif_match.specs.declared.tier.Tier.{Tier}
use Rattle.sarif_match.specs.KeyParts.{KeyParts, same_parts}
use Rattle.sarif_match.specs.Pairing.{places, pairs_from}
use Rattle.sarif_match.specs.Partners.{has_partner, is_taken, left, free, keyed_from, pairs_at, after_tier, partners_after}
use Rattle.sarif_match.specs.Internal.Paired.{key_at}
use Rattle.sarif_match.proofs.LawLemmas.{after_counts, all_keep, all_keep_old, is_taken-by}
use Rattle.sarif_match.proofs.PairedLemmas.{paired-of, stands_keyed}
use Rattle.sarif_match.proofs.PartsLemmas.{parts_same, parts_refl}
use Rattle.sarif_match.proofs.SplitLemmas.{HasPair, none_is_no_some, filter-split, slice_get-places, stands_in_places, pair_made}

-- ---- places in a list

module _ {X : Type 0} where
  pub some_is_no_none : (x : X) → Some x ≡ None → ⊥
  some_is_no_none x e = cc

  -- what is there comes before what isn't
  there_before : (xs : List X) (r s : ℕ) (x : X) → slice_get xs r ≡ None → slice_get xs s ≡ Some x → s < r
  there_before [] r s x none some = absurd (none_is_no_some x some)
  there_before (y ∷ xs) zero s x none some = absurd (some_is_no_none y none)
  there_before (y ∷ xs) (suc r) zero x none some = omega arith
  there_before (y ∷ xs) (suc r) (suc s) x none some =
      let before : s < r = there_before xs r s x none some in omega (arith, before)

  pub there_within : (xs : List X) (s : ℕ) → s < length xs → (x : X) × (slice_get xs s ≡ Some x)
  there_within [] s within = absurd (omega (arith, within))
  there_within (x ∷ xs) zero within = (x, refl)
  there_within (x ∷ xs) (suc s) within = there_within xs s (omega (arith, within))

-- ---- one tier

module _ (keyed others : List (ℕ × KeyParts)) (key : KeyParts) where
  abbrev places_in : List (ℕ × KeyParts) → List ℕ
  places_in es = places same_parts key es

  -- the one before with the rank of a result that is there is paired with it
  earlier_one : (front rear : List (ℕ × KeyParts)) (i s j : ℕ) → keyed ≡ front ++ ((i, key) ∷ rear) → s < length (places_in front)
      → slice_get (places_in others) s ≡ Some j → (n : ℕ) × HasPair (pairs_from same_parts [] keyed others) n j
  earlier_one front rear i s j split before there =
      let found = there_within (places_in front) s before in
      let n = found.0 in
      let stands = stands_in_places same_parts key front s n found.1 in
      let same : stands.own ≡ key = parts_same stands.own key stands.same in
      let rest : List (ℕ × KeyParts) = stands.after ++ ((i, key) ∷ rear) in
      let whole : keyed ≡ stands.before ++ ((n, key) ∷ rest) =
      split ∙ ap (λ (es : List (ℕ × KeyParts)). es ++ ((i, key) ∷ rear)) stands.split
      ∙ append_assoc stands.before ((n, stands.own) ∷ stands.after) ((i, key) ∷ rear)
      ∙ ap (λ (own : KeyParts). stands.before ++ ((n, own) ∷ rest)) same in
      let rank : slice_get (places_in others) (length (places_in stands.before)) ≡ Some j = ap (slice_get (places_in others)) stands.place ∙ there in (
        n,
        subst (λ (es : List (ℕ × KeyParts)). HasPair (pairs_from same_parts [] es others) n j) (sym whole)
            (pair_made same_parts [] stands.before n key rest others j rank),
      )

  -- of two results with this key at least one has a pair
  one_of_two : (front rear : List (ℕ × KeyParts)) (i s j : ℕ) → keyed ≡ front ++ ((i, key) ∷ rear) → slice_get (places_in others) s ≡ Some j
      → ((m : ℕ) × HasPair (pairs_from same_parts [] keyed others) i m) ⊎ ((n : ℕ) × HasPair (pairs_from same_parts [] keyed others) n j)
  one_of_two front rear i s j split there = by_rank (slice_get (places_in others) (length (places_in front))) refl
    where
      by_rank : (o : Option ℕ) → slice_get (places_in others) (length (places_in front)) ≡ o
          → ((m : ℕ) × HasPair (pairs_from same_parts [] keyed others) i m) ⊎ ((n : ℕ) × HasPair (pairs_from same_parts [] keyed others) n j)
      by_rank (Some m) is =
          inl (
            m,
            subst (λ (es : List (ℕ × KeyParts)). HasPair (pairs_from same_parts [] es others) i m) (sym split)
                (pair_made same_parts [] front i key rear others m is),
          )
      by_rank None is =
          inr (earlier_one front rear i s j split (there_before (places_in others) (length (places_in front)) s j is there) there)

module _ (current baseline : List Record) where
  -- of two results that are left over with one key a tier pairs at least one
  one_is_paired : (partners : List (Option ℕ)) (tier : Tier) (i j : ℕ) (key : KeyParts) → key_at tier current i ≡ Some key
      → key_at tier baseline j ≡ Some key → has_partner partners i ≡ false → is_taken partners j ≡ false
      → ((m : ℕ) × HasPair (pairs_at current baseline partners tier) i m) ⊎ ((n : ℕ) × HasPair (pairs_at current baseline partners tier) n j)
  one_is_paired partners tier i j key current_key baseline_key current_left baseline_left =
      let is_left = λ (e : ℕ × KeyParts). not (has_partner partners e.0) in
      let is_free = λ (e : ℕ × KeyParts). not (is_taken partners e.0) in
      let c = stands_keyed tier 0 i i current key (omega arith) current_key in
      let b = stands_keyed tier 0 j j baseline key (omega arith) baseline_key in
      let c_left : left partners (keyed_from tier 0 current) ≡ left partners c.before ++ ((i, key) ∷ left partners c.after) =
      ap (left partners) c.split ∙ filter-split is_left c.before (i, key) c.after (ap not current_left) in
      let b_free : free partners (keyed_from tier 0 baseline) ≡ free partners b.before ++ ((j, key) ∷ free partners b.after) =
      ap (free partners) b.split ∙ filter-split is_free b.before (j, key) b.after (ap not baseline_left) in
      let there : slice_get (places same_parts key (free partners (keyed_from tier 0 baseline)))
      (length (places same_parts key (free partners b.before))) ≡ Some j =
      ap (λ (es : List (ℕ × KeyParts)). slice_get (places same_parts key es) (length (places same_parts key (free partners b.before))))
      b_free ∙ slice_get-places same_parts key (free partners b.before) (j, key) (free partners b.after) (parts_refl key) in
      one_of_two (left partners (keyed_from tier 0 current)) (free partners (keyed_from tier 0 baseline)) key (left partners c.before)
      (left partners c.after) i (length (places same_parts key (free partners b.before))) j c_left there

  -- ---- all tiers

  -- matches of the first tiers stay
  kept_after : (before more : List Tier) (i j : ℕ) → slice_index_or (partners_after current baseline before) i None ≡ Some j
      → slice_index_or (partners_after current baseline (before ++ more)) i None ≡ Some j
  kept_after before more i j was =
      ap (λ (ps : List (Option ℕ)). slice_index_or ps i None) (fold-append (after_tier current baseline) (replicate (length current) None) before more)
      ∙ all_keep_old current baseline more (partners_after current baseline before) i j (after_counts current baseline before) was

  -- a baseline result with the mark is the match of some result
  pub by_someone : (partners : List (Option ℕ)) (j : ℕ) → is_taken partners j ≡ true → (n : ℕ) × (slice_index_or partners n None ≡ Some j)
  by_someone [] j taken = absurd (false≢true taken)
  by_someone (o ∷ partners) j taken =
      ⊎_elim (λ here. (0, is_first o here)) (λ later. further (by_someone partners j later))
      (or_cases (option_map_or (λ (t : ℕ). t == j) o false) (is_taken partners j) taken)
    where
      is_first : (o : Option ℕ) → option_map_or (λ (t : ℕ). t == j) o false ≡ true → o ≡ Some j
      is_first None here = absurd (false≢true here)
      is_first (Some t) here = ap Some ((Decides-eqb t j).0 here)

      further : (n : ℕ) × (slice_index_or partners n None ≡ Some j) → (n : ℕ) × (slice_index_or (o ∷ partners) n None ≡ Some j)
      further found = (suc found.0, found.1)

  module _ (before after : List Tier) (tier : Tier) (i j : ℕ) where
    abbrev at_end : List (Option ℕ)
    at_end = partners_after current baseline (before ++ (tier ∷ after))

    -- a result without a match at the end had none before
    none_before : slice_index_or at_end i None ≡ None → has_partner (partners_after current baseline before) i ≡ false
    none_before none = by_match (slice_index_or (partners_after current baseline before) i None) refl
      where
        by_match : (o : Option ℕ) → slice_index_or (partners_after current baseline before) i None ≡ o
            → has_partner (partners_after current baseline before) i ≡ false
        by_match None is = ap is_some is
        by_match (Some m) is = absurd (some_is_no_none m (sym (kept_after before (tier ∷ after) i m is) ∙ none))

    -- a result without the mark at the end had no mark before
    free_before : is_taken at_end j ≡ false → is_taken (partners_after current baseline before) j ≡ false
    free_before no_mark = by_mark (is_taken (partners_after current baseline before) j) refl
      where
        by_mark : (b : Bool) → is_taken (partners_after current baseline before) j ≡ b → is_taken (partners_after current baseline before) j ≡ false
        by_mark false is = is
        by_mark true is =
            let someone = by_someone (partners_after current baseline before) j is in
            absurd (true≢false (sym (is_taken-by at_end someone.0 j (kept_after before (tier ∷ after) someone.0 j someone.1)) ∙ no_mark))

    at_end_too : (n m : ℕ) → HasPair (pairs_at current baseline (partners_after current baseline before) tier) n m → slice_index_or at_end n None ≡ Some m
    at_end_too n m pair =
        all_keep current baseline before tier after (replicate (length current) None) n m (length-replicate (length current) None)
        (paired-of current baseline (partners_after current baseline before) tier n m pair)

    -- two results that are left over by all tiers have no key in common at any of them
    pub no_common_key : (key : KeyParts) → slice_index_or at_end i None ≡ None → is_taken at_end j ≡ false
        → key_at tier current i ≡ Some key → key_at tier baseline j ≡ Some key → ⊥
    no_common_key key none no_mark current_key baseline_key =
        ⊎_elim (λ p. some_is_no_none p.0 (sym (at_end_too i p.0 p.1) ∙ none))
        (λ p. true≢false (sym (is_taken-by at_end p.0 j (at_end_too p.0 j p.1)) ∙ no_mark))
        (one_is_paired (partners_after current baseline before) tier i j key current_key baseline_key
        (none_before none) (free_before no_mark))
