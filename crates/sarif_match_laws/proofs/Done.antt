-- The same results in another order: after each tier exactly those are matched that had a key at it or at an earlier one.
use Rattle.std.proofs.Common.{◌≡◌, ℕ, ◌+◌, ◌<◌, zero, suc, Bool, true, false, cond, not, ◌&&◌, ◌||◌, inl, inr, ⊎_elim, List, [], ◌∷◌, ◌++◌, Option, Some, None, fold, is_some, length, replicate, slice_get, slice_index_or, refl, sym, ap, ◌∙◌, subst, arith, append_assoc, append-nil}
use Rattle.std.specs.List.{count_by, list_any}
use Rattle.std.specs.Option.{option_map_or}
use Rattle.std.specs.Prelude.{option_and_then}
use Rattle.std.proofs.lemmas.Bool.{true≢false, false≢true, and_from, and_parts, not-true}
use Rattle.std.proofs.lemmas.List.Folds.{list_any-append}
use Rattle.std.proofs.lemmas.List.Sums.{fold-append}
use Rattle.std.proofs.lemmas.Option.{same_Some}
use Rattle.sarif_model.specs.declared.record.Record.{Record}
use Rattle.sarif_match.specs.declared.tier.Tier.{Tier}
use Rattle.sarif_match.specs.Key.{key_of}
use Rattle.sarif_match.specs.KeyParts.{KeyParts, same_parts}
use Rattle.sarif_match.specs.Partners.{after_tier, has_partner, is_taken, pairs_at, partners_after, seen_from_end}
use Rattle.sarif_evidence.specs.Seen.{seen}
use Rattle.sarif_match_laws.specs.Leaving.{AreReordered, count_left}
use Rattle.sarif_match.specs.Internal.Paired.{key_at}
use Rattle.sarif_match_laws.proofs.AsMany.{count_from_end, found_at}
use Rattle.sarif_match_laws.proofs.CountLemmas.{PairAlike, count_some, counted_alike, fresh_pairs}
use Rattle.sarif_match.proofs.FitsLemmas.{Fits-pairs_at}
use Rattle.sarif_match.proofs.LawLemmas.{after_counts, is_taken-by, paired_once, tier-adds, tier-tells}
use Rattle.sarif_match_laws.proofs.NoneLeft.{by_someone, no_common_key}
use Rattle.sarif_match.proofs.PairedLemmas.{paired-of}
use Rattle.sarif_match.proofs.PartsLemmas.{parts_refl, parts_same}
use Rattle.sarif_match.proofs.PutLemmas.{nobody_taken}
use Rattle.sarif_match.proofs.SplitLemmas.{HasPair, none_is_no_some}

-- ---- counts

abbrev one_if : Bool → ℕ
one_if b = cond b 1 0

abbrev pub total : (Record → Bool) → List Record → ℕ
total test rs = count_left test (λ _. false) 0 rs

module _ (test : Record → Bool) (done : ℕ → Bool) where
  -- what passes is not done
  count_free : (n : ℕ) (rs : List Record) → ((k : ℕ) (r : Record) → slice_get rs k ≡ Some r → test r ≡ true → done (n + k) ≡ false)
      → count_left test done n rs ≡ count_left test (λ _. false) n rs
  count_free n [] free = refl
  count_free n (r ∷ rs) free =
      let more : count_left test done (suc n) rs ≡ count_left test (λ _. false) (suc n) rs =
      count_free (suc n) rs (λ k x here is. (let at : suc n + k ≡ n + suc k = omega arith in ap done at ∙ free (suc k) x here is)) in
      let first : one_if (test r && not (done n)) ≡ one_if (test r && not false) =
      by_test (test r) (λ is. (let at : n ≡ n + 0 = omega arith in ap done at ∙ free 0 r refl is)) in
      omega (arith, first, more)
    where
      by_test : (b : Bool) → (b ≡ true → done n ≡ false) → one_if (b && not (done n)) ≡ one_if (b && not false)
      by_test true un = ap (λ (c : Bool). one_if (not c)) (un refl)
      by_test false un = refl

  -- one that passes and is not done counts
  count_positive : (n m : ℕ) (rs : List Record) (r : Record) → slice_get rs m ≡ Some r → test r ≡ true → done (n + m) ≡ false
      → 0 < count_left test done n rs
  count_positive n m [] r here is un = absurd (none_is_no_some r here)
  count_positive n zero (x ∷ rs) r here is un =
      let at : n + 0 ≡ n = omega arith in
      let passes : test x ≡ true = ap test (same_Some x r here) ∙ is in
      let first : one_if (test x && not (done n)) ≡ 1 =
      ap (λ (b : Bool). one_if (b && not (done n))) passes ∙ ap (λ (c : Bool). one_if (not c)) (sym (ap done at) ∙ un) in
      omega (arith, first)
  count_positive n (suc m) (x ∷ rs) r here is un =
      let at : suc n + m ≡ n + suc m = omega arith in
      let more = count_positive (suc n) m rs r here is (ap done at ∙ un) in
      omega (arith, more)

nobody_has : (n q : ℕ) → has_partner (replicate n None) q ≡ false
nobody_has zero q = refl
nobody_has (suc n) zero = refl
nobody_has (suc n) (suc q) = nobody_has n q

-- ---- all results with a key at one of the tiers are matched

-- whether a result has a key at one of these tiers
abbrev pub had : List Tier → Record → Bool
had ts r = list_any (λ t. is_some (key_of r t)) ts

abbrev has_own : Tier → KeyParts → Record → Bool
has_own tier key r = option_map_or (λ own. same_parts own key) (key_of r tier) false

own_key : (tier : Tier) (key : KeyParts) (r : Record) → has_own tier key r ≡ true → key_of r tier ≡ Some key
own_key tier key r is = by_key (key_of r tier) is
  where
    by_key : (o : Option KeyParts) → option_map_or (λ own. same_parts own key) o false ≡ true → o ≡ Some key
    by_key None never = absurd (false≢true never)
    by_key (Some own) same = ap Some (parts_same own key same)

pub some_at : (o : Option ℕ) → is_some o ≡ true → (m : ℕ) × (o ≡ Some m)
some_at None is = absurd (false≢true is)
some_at (Some m) is = (m, refl)

none_at : (o : Option ℕ) → is_some o ≡ false → o ≡ None
none_at None is = refl
none_at (Some m) is = absurd (true≢false is)

key_here : (tier : Tier) (rs : List Record) (i : ℕ) (r : Record) → slice_get rs i ≡ Some r → key_at tier rs i ≡ key_of r tier
key_here tier rs i r here = ap (option_and_then (λ (x : Record). key_of x tier)) here

module _ (cs bs : List Record) (reordered : (test : Record → Bool) → total test cs ≡ total test bs) where
  pub record AllDone (ts : List Tier) : Type 0 where
    pub current : (i : ℕ) (r : Record) → slice_get cs i ≡ Some r → has_partner (partners_after cs bs ts) i ≡ had ts r
    pub baseline : (j : ℕ) (b : Record) → slice_get bs j ≡ Some b → is_taken (partners_after cs bs ts) j ≡ had ts b

  none_done : AllDone []
  none_done = record { current = λ i r here. nobody_has (length cs) i; baseline = λ j b here. nobody_taken (length cs) j }

  module _ (ts : List Tier) (t : Tier) (done : AllDone ts) where
    abbrev before_t : List (Option ℕ)
    before_t = partners_after cs bs ts

    abbrev after_t : List (Option ℕ)
    after_t = partners_after cs bs (ts ++ (t ∷ []))

    module _ (key : KeyParts) where
      abbrev waits : Record → Bool
      waits r = not (had ts r) && has_own t key r

      waits_alike : (ps : List (ℕ × ℕ)) → ((i j : ℕ) → HasPair ps i j → HasPair (pairs_at cs bs before_t t) i j) → PairAlike cs bs waits waits ps
      waits_alike [] among = tt
      waits_alike (p ∷ ps) among =
          let paired = paired-of cs bs before_t t p.0 p.1 (among p.0 p.1 (inl refl)) in
          let c = found_at t cs p.0 paired.key paired.current_key in
          let b = found_at t bs p.1 paired.key paired.baseline_key in
          let none : had ts c.0 ≡ false = sym (done.current p.0 c.0 c.1) ∙ paired.current_left in
          let nor : had ts b.0 ≡ false = sym (done.baseline p.1 b.0 b.1) ∙ paired.baseline_left in
          let own : has_own t key c.0 ≡ has_own t key b.0 =
          ap (λ (o : Option KeyParts). option_map_or (λ own. same_parts own key) o false) (c.2 ∙ sym b.2) in (
            (c.0, b.0, c.1, b.1, λ i. not ((none ∙ sym nor) i) && own i),
            waits_alike ps (λ i j h. among i j (inr h)),
          )

      as_many_wait : count_left waits (has_partner after_t) 0 cs ≡ count_left waits (is_taken after_t) 0 bs
      as_many_wait =
          let goes : after_tier cs bs before_t t ≡ after_t = sym (fold-append (after_tier cs bs) (replicate (length cs) None) ts (t ∷ [])) in
          let counted : length before_t ≡ length cs = after_counts cs bs ts in
          let moves = counted_alike cs bs waits waits before_t (pairs_at cs bs before_t t)
          (fresh_pairs (length bs) before_t (pairs_at cs bs before_t t) (Fits-pairs_at cs bs before_t t counted)
          (λ i j h. (paired-of cs bs before_t t i j h).baseline_left)
          (λ i k j a b. paired_once cs bs before_t t i k j (paired-of cs bs before_t t i j a) (paired-of cs bs before_t t k j b)))
          (waits_alike (pairs_at cs bs before_t t) (λ i j h. h)) in
          let moved : count_left waits (has_partner before_t) 0 cs + count_left waits (is_taken after_t) 0 bs
          ≡ count_left waits (has_partner after_t) 0 cs + count_left waits (is_taken before_t) 0 bs =
          subst (λ (to : List (Option ℕ)). count_left waits (has_partner before_t) 0 cs + count_left waits (is_taken to) 0 bs
          ≡ count_left waits (has_partner to) 0 cs + count_left waits (is_taken before_t) 0 bs) goes moves in
          let all_c : count_left waits (has_partner before_t) 0 cs ≡ total waits cs =
          count_free waits (has_partner before_t) 0 cs
          (λ k r here is. (let at : 0 + k ≡ k = omega arith in ap (has_partner before_t) at ∙ done.current k r here
          ∙ not-true (had ts r) (and_parts (not (had ts r)) (has_own t key r) is).0)) in
          let all_b : count_left waits (is_taken before_t) 0 bs ≡ total waits bs =
          count_free waits (is_taken before_t) 0 bs
          (λ k b here is. (let at : 0 + k ≡ k = omega arith in ap (is_taken before_t) at ∙ done.baseline k b here
          ∙ not-true (had ts b) (and_parts (not (had ts b)) (has_own t key b) is).0)) in
          let same = reordered waits in
          omega (arith, moved, all_c, all_b, same)

      waits_if : (r : Record) → had ts r ≡ false → key_of r t ≡ Some key → waits r ≡ true
      waits_if r none is =
          and_from (not (had ts r)) (has_own t key r) (ap not none)
          (ap (λ (o : Option KeyParts). option_map_or (λ own. same_parts own key) o false) is ∙ parts_refl key)

      both_wait : (i j : ℕ) (r b : Record) → slice_get cs i ≡ Some r → slice_get bs j ≡ Some b → waits r ≡ true → waits b ≡ true
          → has_partner after_t i ≡ false → is_taken after_t j ≡ false → ⊥
      both_wait i j r b mine theirs of_r of_b left free =
          no_common_key cs bs ts [] t i j key (none_at (slice_index_or after_t i None) left) free
          (key_here t cs i r mine ∙ own_key t key r (and_parts (not (had ts r)) (has_own t key r) of_r).1)
          (key_here t bs j b theirs ∙ own_key t key b (and_parts (not (had ts b)) (has_own t key b) of_b).1)

      no_current_waits : (i : ℕ) (r : Record) → slice_get cs i ≡ Some r → waits r ≡ true → has_partner after_t i ≡ false → ⊥
      no_current_waits i r here is left =
          let at : 0 + i ≡ i = omega arith in
          let some = count_positive waits (has_partner after_t) 0 i cs r here is (ap (has_partner after_t) at ∙ left) in
          ⊎_elim (λ none. omega (arith, some, none, as_many_wait))
          (λ b. (let to : 0 + b.0 ≡ b.0 = omega arith in
          both_wait i b.0 r b.1 here b.2 is b.3 left (ap (is_taken after_t) (sym to) ∙ b.4)))
          (count_some waits (is_taken after_t) 0 bs)

      no_baseline_waits : (j : ℕ) (b : Record) → slice_get bs j ≡ Some b → waits b ≡ true → is_taken after_t j ≡ false → ⊥
      no_baseline_waits j b here is free =
          let at : 0 + j ≡ j = omega arith in
          let some = count_positive waits (is_taken after_t) 0 j bs b here is (ap (is_taken after_t) at ∙ free) in
          ⊎_elim (λ none. omega (arith, some, none, as_many_wait))
          (λ c. (let to : 0 + c.0 ≡ c.0 = omega arith in
          both_wait c.0 j c.1 b c.2 here c.3 is (ap (has_partner after_t) (sym to) ∙ c.4) free))
          (count_some waits (has_partner after_t) 0 cs)

    had_one : (r : Record) → had (ts ++ (t ∷ [])) r ≡ had ts r || (is_some (key_of r t) || false)
    had_one r = list_any-append (λ (t : Tier). is_some (key_of r t)) ts (t ∷ [])

    stays : (i m : ℕ) → slice_index_or before_t i None ≡ Some m → slice_index_or after_t i None ≡ Some m
    stays i m was = tier-adds cs bs ts t i m (inl was)

    current_done : (i : ℕ) (r : Record) → slice_get cs i ≡ Some r → has_partner after_t i ≡ had ts r || (is_some (key_of r t) || false)
    current_done i r here = by_had (had ts r) refl (key_of r t) refl
      where
        not_yet : had ts r ≡ false → key_of r t ≡ None → (o : Option ℕ) → slice_index_or after_t i None ≡ o → is_some o ≡ false
        not_yet none no_key None is = refl
        not_yet none no_key (Some m) is =
            absurd
            (⊎_elim
            (λ was. true≢false (sym (ap is_some was) ∙ done.current i r here ∙ none))
            (λ paired. none_is_no_some paired.key (sym (key_here t cs i r here ∙ no_key) ∙ paired.current_key))
            (tier-tells cs bs ts t i m is))

        by_had : (b : Bool) → had ts r ≡ b → (o : Option KeyParts) → key_of r t ≡ o → has_partner after_t i ≡ b || (is_some o || false)
        by_had true is o own =
            let found = some_at (slice_index_or before_t i None) (done.current i r here ∙ is) in
            ap is_some (stays i found.0 found.1)
        by_had false is None own = not_yet is own (slice_index_or after_t i None) refl
        by_had false is (Some key) own = by_match (has_partner after_t i) refl
          where
            by_match : (b : Bool) → has_partner after_t i ≡ b → has_partner after_t i ≡ true
            by_match true so = so
            by_match false left = absurd (no_current_waits key i r here (waits_if key r is own) left)

    baseline_done : (j : ℕ) (b : Record) → slice_get bs j ≡ Some b → is_taken after_t j ≡ had ts b || (is_some (key_of b t) || false)
    baseline_done j b here = by_had (had ts b) refl (key_of b t) refl
      where
        not_yet : had ts b ≡ false → key_of b t ≡ None → (c : Bool) → is_taken after_t j ≡ c → c ≡ false
        not_yet none no_key false is = refl
        not_yet none no_key true is =
            let someone = by_someone cs bs after_t j is in
            absurd
            (⊎_elim
            (λ was. true≢false (sym (is_taken-by before_t someone.0 j was) ∙ done.baseline j b here ∙ none))
            (λ paired. none_is_no_some paired.key (sym (key_here t bs j b here ∙ no_key) ∙ paired.baseline_key))
            (tier-tells cs bs ts t someone.0 j someone.1))

        by_had : (c : Bool) → had ts b ≡ c → (o : Option KeyParts) → key_of b t ≡ o → is_taken after_t j ≡ c || (is_some o || false)
        by_had true is o own =
            let someone = by_someone cs bs before_t j (done.baseline j b here ∙ is) in
            is_taken-by after_t someone.0 j (stays someone.0 j someone.1)
        by_had false is None own = not_yet is own (is_taken after_t j) refl
        by_had false is (Some key) own = by_mark (is_taken after_t j) refl
          where
            by_mark : (c : Bool) → is_taken after_t j ≡ c → is_taken after_t j ≡ true
            by_mark true so = so
            by_mark false free = absurd (no_baseline_waits key j b here (waits_if key b is own) free)

    one_more : AllDone (ts ++ (t ∷ []))
    one_more = record {
      current = λ i r here. current_done i r here ∙ sym (had_one r);
      baseline = λ j b here. baseline_done j b here ∙ sym (had_one b);
    }

  all_done : (before after : List Tier) → AllDone before → AllDone (before ++ after)
  all_done before [] done = subst AllDone (sym (append-nil before)) done
  all_done before (t ∷ after) done =
      subst AllDone (append_assoc before (t ∷ []) after) (all_done (before ++ (t ∷ [])) after (one_more before t done))

  pub done_after : (ts : List Tier) → AllDone ts
  done_after ts = all_done [] ts none_done

-- ---- lists in reverse order

module _ (current baseline : List Record) (reordered : AreReordered current baseline) where
  count_on : (test : Record → Bool) (n a : ℕ) (rs : List Record) → fold (λ m x. m + cond (test x) 1 0) a rs ≡ a + count_left test (λ _. false) n rs
  count_on test n a [] = let none : a ≡ a + 0 = omega arith in none
  count_on test n a (r ∷ rs) =
      let more : fold (λ m x. m + cond (test x) 1 0) (a + one_if (test r)) rs ≡ (a + one_if (test r)) + count_left test (λ _. false) (suc n) rs =
      count_on test (suc n) (a + one_if (test r)) rs in
      let first : one_if (test r && not false) ≡ one_if (test r) = by_test (test r) in
      let all : (a + one_if (test r)) + count_left test (λ _. false) (suc n) rs
      ≡ a + (one_if (test r && not false) + count_left test (λ _. false) (suc n) rs) = omega (arith, first) in
      more ∙ all
    where
      by_test : (b : Bool) → one_if (b && not false) ≡ one_if b
      by_test true = refl
      by_test false = refl

  pub total_count : (test : Record → Bool) (n : ℕ) (rs : List Record) → count_left test (λ _. false) n rs ≡ count_by test rs
  total_count test n rs =
      let at : 0 + count_left test (λ _. false) n rs ≡ count_left test (λ _. false) n rs = omega arith in sym (count_on test n 0 rs ∙ at)

  pub seen_reordered : (test : Record → Bool) → total test (seen_from_end current) ≡ total test (seen_from_end baseline)
  seen_reordered test =
      let before = λ (r : Record). test (seen r) in
      sym (count_from_end before test (λ r. refl) (λ _. false) (λ _. false) 0 current (λ k lt. refl)) ∙ total_count before 0 current ∙ reordered before
      ∙ sym (total_count before 0 baseline) ∙ count_from_end before test (λ r. refl) (λ _. false) (λ _. false) 0 baseline (λ k lt. refl)
