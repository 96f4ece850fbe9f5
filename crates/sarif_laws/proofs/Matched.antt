-- Current results that a baseline has too are matched with themselves, if of each tool the baseline has them first.
use Rattle.std.proofs.Common.{◌≡◌, ℕ, ◌+◌, ◌<◌, ◌==◌, zero, suc, Bool, true, false, cond, not, ◌||◌, List, [], ◌∷◌, ◌++◌, Option, Some, None, length, fold, map, slice_get, slice_index_or, slice_set, is_some, refl, sym, ap, subst, ◌∙◌, arith, inl, inr, ⊎_elim, eq-eqb}
use mathlib.Core.Bool.{or-true}
use Rattle.std.specs.Prelude.{filter}
use Rattle.std.specs.List.{AllByRecursion, AllZip, list_any}
use Rattle.std.specs.Option.{option_map_or}
use Rattle.std.proofs.Math.ListN.{length-set}
use Rattle.std.proofs.lemmas.Bool.{eqb-true, or_cases, true≢false}
use Rattle.std.proofs.lemmas.List.{map-append}
use Rattle.std.proofs.lemmas.List.Elements.{filter-append}
use Rattle.std.proofs.lemmas.Option.{same_Some}
use Rattle.sarif_model.specs.declared.record.Record.{Record}
use Rattle.sarif_match.specs.declared.tier.Tier.{Tier}
use Rattle.sarif_match.specs.Internal.Fits.{Fits}
use Rattle.sarif_match.specs.Key.{key_of}
use Rattle.sarif_match.specs.KeyParts.{KeyParts, same_parts}
use Rattle.sarif_match.specs.Partners.{after_tier, free, has_partner, is_taken, keyed_from, left, pairs_at, put_all, with_key}
use Rattle.sarif_match.proofs.FitsLemmas.{Fits-pairs_at}
use Rattle.sarif_match.proofs.PartsLemmas.{parts_refl}
use Rattle.sarif_match.proofs.PutLemmas.{has_partner-put, slice_index_or-slice_set}
use Rattle.sarif_laws.proofs.Arranged.{AreApart, of_tagged, untag}
use Rattle.sarif_laws.proofs.Keyed.{keyed_first, keys_of_tool, numbered, numbered_keyed, tag_keyed, tool_of}
use Rattle.sarif_match_laws.proofs.Keyed.{filter_swap, tool_in}
use Rattle.sarif_laws.proofs.Ranked.{ArePairs, AreRanked, get_front, pairs_own, zip_filter}
use Rattle.sarif_laws.proofs.Tiered.{IsIn}

-- ---- by places

pub all_get : {X : Type 0} (P : X → Type 0) (xs : List X) (n : ℕ) (x : X) → AllByRecursion P xs → slice_get xs n ≡ Some x → P x
all_get P [] n x all is = let never : ⊥ = cc in absurd never
all_get P (y ∷ xs) zero x all is = subst P (same_Some y x is) all.0
all_get P (y ∷ xs) (suc n) x all is = all_get P xs n x all.1 is

apart_at : (T : List (ℕ × Record)) (j k : ℕ) (x y : ℕ × Record) → AreApart T → slice_get T j ≡ Some x → slice_get T k ≡ Some y → x.0 ≡ y.0 → j ≡ k
apart_at [] j k x y apart first second same = let never : ⊥ = cc in absurd never
apart_at (t ∷ T) zero zero x y apart first second same = refl
apart_at (t ∷ T) zero (suc k) x y apart first second same =
    absurd (all_get (λ z. t.0 ≡ z.0 → ⊥) T k y apart.0 second (ap (λ (e : ℕ × Record). e.0) (same_Some t x first) ∙ same))
apart_at (t ∷ T) (suc j) zero x y apart first second same =
    absurd (all_get (λ z. t.0 ≡ z.0 → ⊥) T j x apart.0 first (ap (λ (e : ℕ × Record). e.0) (same_Some t y second) ∙ sym same))
apart_at (t ∷ T) (suc j) (suc k) x y apart first second same = ap suc (apart_at T j k x y apart.1 first second same)

taken_by : (partners : List (Option ℕ)) (j : ℕ) → is_taken partners j ≡ true → (i : ℕ) × (slice_index_or partners i None ≡ Some j)
taken_by [] j is = absurd (true≢false (sym is))
taken_by (None ∷ partners) j is = let later = taken_by partners j is in (suc later.0, later.1)
taken_by (Some n ∷ partners) j is =
    ⊎_elim (λ here. (0, ap Some (eqb-true n j here))) (λ rest. let later = taken_by partners j rest in (suc later.0, later.1))
    (or_cases (n == j) (is_taken partners j) is)

is_taken_by : (partners : List (Option ℕ)) (i j : ℕ) → slice_index_or partners i None ≡ Some j → is_taken partners j ≡ true
is_taken_by [] i j found = let never : ⊥ = cc in absurd never
is_taken_by (x ∷ partners) zero j found =
    ap (λ (o : Option ℕ). option_map_or (λ (taken : ℕ). taken == j) o false || is_taken partners j) found
    ∙ ap (λ (b : Bool). b || is_taken partners j) (eq-eqb j j refl)
is_taken_by (x ∷ partners) (suc i) j found =
    ap (λ (b : Bool). option_map_or (λ (taken : ℕ). taken == j) x false || b) (is_taken_by partners i j found)
    ∙ or-true (option_map_or (λ (taken : ℕ). taken == j) x false)

pub some_of : (o : Option ℕ) → is_some o ≡ true → (j : ℕ) × (o ≡ Some j)
some_of None is = absurd (true≢false (sym is))
some_of (Some j) is = (j, refl)

same_tests : (a b : Bool) → (a ≡ true → b ≡ true) → (b ≡ true → a ≡ true) → a ≡ b
same_tests true true to from = refl
same_tests true false to from = sym (to refl)
same_tests false true to from = from refl
same_tests false false to from = refl

put_long : (partners : List (Option ℕ)) (ps : List (ℕ × ℕ)) → length (put_all partners ps) ≡ length partners
put_long partners [] = refl
put_long partners (p ∷ ps) = put_long (slice_set partners p.0 (Some p.1)) ps ∙ length-set partners p.0 (Some p.1)

either_way : (b c : Bool) → c ≡ true → cond b true c ≡ true
either_way true c is = refl
either_way false c is = is

put_keeps : (m : ℕ) (partners : List (Option ℕ)) (ps : List (ℕ × ℕ)) (i : ℕ) → Fits m partners ps → has_partner partners i ≡ true
    → has_partner (put_all partners ps) i ≡ true
put_keeps m partners [] i fits has = has
put_keeps m partners (p ∷ ps) i fits has =
    put_keeps m (slice_set partners p.0 (Some p.1)) ps i fits.3 (has_partner-put partners p.0 p.1 i fits.0 ∙ either_way (p.0 == i) (has_partner partners i) has)

-- ---- the keys of a list of results

there_still : {K : Type 0} (p q : ℕ × K → Bool) (n : ℕ) (o : Option K) (es : List (ℕ × K)) → list_any q (filter p es) ≡ true
    → list_any q (filter p (with_key n o es)) ≡ true
there_still p q n None es there = there
there_still p q n (Some key) es there = by_test (p (n, key))
  where
    by_test : (b : Bool) → list_any q (cond b ((n, key) ∷ filter p es) (filter p es)) ≡ true
    by_test true = ap (λ b. q (n, key) || b) there ∙ or-true (q (n, key))
    by_test false = there

keyed_there : (tier : Tier) (partners : List (Option ℕ)) (n i m : ℕ) (rs : List Record) (r : Record) (key : KeyParts) → i ≡ n + m
    → slice_get rs m ≡ Some r → key_of r tier ≡ Some key → has_partner partners i ≡ false
    → list_any (λ e. e.0 == i) (left partners (keyed_from tier n rs)) ≡ true
keyed_there tier partners n i m [] r key at found is none = let never : ⊥ = cc in absurd never
keyed_there tier partners n i zero (x ∷ rs) r key at found is none =
    let here : i ≡ n = omega (arith, at) in
    let own : key_of x tier ≡ Some key = ap (λ y. key_of y tier) (same_Some x r found) ∙ is in
    ap (λ o. list_any (λ (e : ℕ × KeyParts). e.0 == i) (left partners (with_key n o (keyed_from tier (suc n) rs)))) own
    ∙ ap (λ b. list_any (λ (e : ℕ × KeyParts). e.0 == i)
    (cond (not b) ((n, key) ∷ left partners (keyed_from tier (suc n) rs)) (left partners (keyed_from tier (suc n) rs))))
    (ap (has_partner partners) (sym here) ∙ none)
    ∙ ap (λ b. b || list_any (λ (e : ℕ × KeyParts). e.0 == i) (left partners (keyed_from tier (suc n) rs))) (eq-eqb n i (sym here))
keyed_there tier partners n i (suc m) (x ∷ rs) r key at found is none =
    there_still (λ (e : ℕ × KeyParts). not (has_partner partners e.0)) (λ (e : ℕ × KeyParts). e.0 == i) n (key_of x tier) (keyed_from tier (suc n) rs)
    (keyed_there tier partners (suc n) i m rs r key (omega (arith, at)) found is none)

-- ---- the baseline as numbered records

module _ (T : List (ℕ × Record)) where
  -- baseline result j is the record with number i
  abbrev pub IsAt : ℕ → ℕ → Type 0
  IsAt j i = (r : Record) × (slice_get T j ≡ Some (i, r))

  abbrev IsSame : ℕ × KeyParts → ℕ × KeyParts → Type 0
  IsSame e f = IsAt e.0 f.0 × (e.1 ≡ f.1)

  both_keyed : (n i : ℕ) (o : Option KeyParts) (es fs : List (ℕ × KeyParts)) → IsAt n i → AllZip IsSame es fs
      → AllZip IsSame (with_key n o es) (with_key i o fs)
  both_keyed n i None es fs at rest = rest
  both_keyed n i (Some key) es fs at rest = ((at, refl), rest)

  zip_keyed : (tier : Tier) (n : ℕ) (rest : List (ℕ × Record)) → ((m : ℕ) (x : ℕ × Record) → slice_get rest m ≡ Some x → slice_get T (n + m) ≡ Some x)
      → AllZip IsSame (keyed_from tier n (untag rest)) (tag_keyed tier rest)
  zip_keyed tier n [] within = tt
  zip_keyed tier n (x ∷ rest) within =
      let first : n + 0 ≡ n = omega arith in
      both_keyed n x.0 (key_of x.1 tier) (keyed_from tier (suc n) (untag rest)) (tag_keyed tier rest) (x.1, ap (slice_get T) (sym first) ∙ within 0 x refl)
      (zip_keyed tier (suc n) rest (λ m y is. let next : suc n + m ≡ n + suc m = omega arith in ap (slice_get T) next ∙ within (suc m) y is))

  zip_get : (es fs : List (ℕ × KeyParts)) (rank i : ℕ) → AllZip IsSame es fs → slice_get (map (λ e. e.0) fs) rank ≡ Some i → (j : ℕ)
      × (slice_get (map (λ e. e.0) es) rank ≡ Some j) × IsAt j i
  zip_get [] [] rank i all is = let never : ⊥ = cc in absurd never
  zip_get [] (f ∷ fs) rank i all is = absurd all
  zip_get (e ∷ es) [] rank i all is = absurd all
  zip_get (e ∷ es) (f ∷ fs) zero i all is = (e.0, refl, subst (IsAt e.0) (same_Some f.0 i is) all.0.0)
  zip_get (e ∷ es) (f ∷ fs) (suc rank) i all is = zip_get es fs rank i all.1 is

  -- each match is the record itself
  pub record IsOwn (partners : List (Option ℕ)) : Type 0 where
    pub at : (i j : ℕ) → slice_index_or partners i None ≡ Some j → IsAt j i

  pub taken_is : (partners : List (Option ℕ)) (j : ℕ) (x : ℕ × Record) → AreApart T → IsOwn partners → slice_get T j ≡ Some x
      → is_taken partners j ≡ has_partner partners x.0
  taken_is partners j x apart own found = same_tests (is_taken partners j) (has_partner partners x.0) to from
    where
      to : is_taken partners j ≡ true → has_partner partners x.0 ≡ true
      to taken =
          let by = taken_by partners j taken in
          let at = own.at by.0 j by.1 in
          let same : x.0 ≡ by.0 = ap (λ (e : ℕ × Record). e.0) (same_Some x (by.0, at.0) (sym found ∙ at.1)) in
          ap (has_partner partners) same ∙ ap is_some by.1

      from : has_partner partners x.0 ≡ true → is_taken partners j ≡ true
      from has =
          let other = some_of (slice_index_or partners x.0 None) has in
          let at = own.at x.0 other.0 other.1 in
          let same : other.0 ≡ j = apart_at T other.0 j (x.0, at.0) x apart at.1 found refl in
          is_taken_by partners x.0 j (other.1 ∙ ap Some same)

  set_own : (partners : List (Option ℕ)) (p : ℕ × ℕ) → IsOwn partners → p.0 < length partners → IsAt p.1 p.0 → IsOwn (slice_set partners p.0 (Some p.1))
  set_own partners p own within at =
      record { at = λ i j found. by_test i j (p.0 == i) refl (sym (slice_index_or-slice_set partners p.0 i (Some p.1) None within) ∙ found) }
    where
      by_test : (i j : ℕ) (b : Bool) → (p.0 == i) ≡ b → cond b (Some p.1) (slice_index_or partners i None) ≡ Some j → IsAt j i
      by_test i j true same found = subst (IsAt j) (eqb-true p.0 i same) (subst (λ k. IsAt k p.0) (same_Some p.1 j found) at)
      by_test i j false other found = own.at i j found

  put_own : (m : ℕ) (partners : List (Option ℕ)) (es : List (ℕ × KeyParts)) (ps : List (ℕ × ℕ)) → IsOwn partners
      → ArePairs same_parts parts_refl IsAt es ps → Fits m partners ps → IsOwn (put_all partners ps)
  put_own m partners [] [] own pairs fits = own
  put_own m partners [] (p ∷ ps) own pairs fits = absurd pairs
  put_own m partners (e ∷ es) [] own pairs fits = absurd pairs
  put_own m partners (e ∷ es) (p ∷ ps) own pairs fits =
      put_own m (slice_set partners p.0 (Some p.1)) es ps (set_own partners p own fits.0 pairs.0.1) pairs.1 fits.3

  put_new : (m : ℕ) (partners : List (Option ℕ)) (es : List (ℕ × KeyParts)) (ps : List (ℕ × ℕ)) (i : ℕ) → ArePairs same_parts parts_refl IsAt es ps
      → Fits m partners ps → list_any (λ e. e.0 == i) es ≡ true → has_partner (put_all partners ps) i ≡ true
  put_new m partners [] [] i pairs fits there = absurd (true≢false (sym there))
  put_new m partners [] (p ∷ ps) i pairs fits there = absurd pairs
  put_new m partners (e ∷ es) [] i pairs fits there = absurd pairs
  put_new m partners (e ∷ es) (p ∷ ps) i pairs fits there =
      ⊎_elim (λ here. put_keeps m (slice_set partners p.0 (Some p.1)) ps i fits.3
      (has_partner-put partners p.0 p.1 i fits.0
      ∙ ap (λ b. cond b true (has_partner partners i)) (eq-eqb p.0 i (pairs.0.0 ∙ eqb-true e.0 i here))))
      (λ rest. put_new m (slice_set partners p.0 (Some p.1)) es ps i pairs.1 fits.3 rest)
      (or_cases (e.0 == i) (list_any (λ (d : ℕ × KeyParts). d.0 == i) es) there)

  -- ---- tiers

  module _ (cs more : List Record) (apart : AreApart T) (same : (t : List ℕ) → of_tagged tool_of t T ≡ of_tagged tool_of t (numbered 0 (cs ++ more))) where
    keys_found : (tier : Tier) (partners : List (Option ℕ)) (k : KeyParts) → (rest : List (ℕ × KeyParts))
        × (filter (λ e. same_parts e.1 k) (left partners (tag_keyed tier T)) ≡ filter (λ e. same_parts e.1 k) (left partners (keyed_from tier 0 cs)) ++ rest)
    keys_found tier partners k =
        let hk = λ (e : ℕ × KeyParts). same_parts e.1 k in
        let un = λ (e : ℕ × KeyParts). not (has_partner partners e.0) in
        let first = keyed_first tier 0 cs more in (
          filter hk (left partners first.0),
          filter_swap hk un (tag_keyed tier T)
              ∙ ap (filter un)
              (keys_of_tool tier k T ∙ ap (λ l. filter hk (tag_keyed tier l)) (same (tool_in k))
              ∙ sym (keys_of_tool tier k (numbered 0 (cs ++ more))) ∙ ap (filter hk) (numbered_keyed tier 0 (cs ++ more) ∙ first.1))
              ∙ sym (filter_swap hk un (keyed_from tier 0 cs ++ first.0))
              ∙ ap (filter hk) (filter-append un (keyed_from tier 0 cs) first.0)
              ∙ filter-append hk (left partners (keyed_from tier 0 cs)) (left partners first.0),
        )

    ranked : (tier : Tier) (partners : List (Option ℕ)) → IsOwn partners
        → AreRanked same_parts parts_refl IsAt (left partners (keyed_from tier 0 cs)) (free partners (keyed_from tier 0 (untag T)))
    ranked tier partners own k rank i is =
        let keys = keys_found tier partners k in
        let now = filter (λ (e : ℕ × KeyParts). same_parts e.1 k) (left partners (keyed_from tier 0 cs)) in
        let all : slice_get (map (λ (e : ℕ × KeyParts). e.0) (filter (λ (e : ℕ × KeyParts). same_parts e.1 k) (left partners (tag_keyed tier T))))
        rank ≡ Some i =
        ap (λ l. slice_get (map (λ (e : ℕ × KeyParts). e.0) l) rank) keys.1
        ∙ ap (λ l. slice_get l rank) (map-append (λ (e : ℕ × KeyParts). e.0) now keys.0)
        ∙ get_front (map (λ (e : ℕ × KeyParts). e.0) now) (map (λ (e : ℕ × KeyParts). e.0) keys.0) rank i is in
        zip_get (filter (λ e. same_parts e.1 k) (free partners (keyed_from tier 0 (untag T))))
        (filter (λ e. same_parts e.1 k) (left partners (tag_keyed tier T))) rank i
        (zip_filter IsSame (λ e. same_parts e.1 k) (λ e. same_parts e.1 k) (λ e f is. ap (λ x. same_parts x k) is.1)
        (free partners (keyed_from tier 0 (untag T))) (left partners (tag_keyed tier T))
        (zip_filter IsSame (λ e. not (is_taken partners e.0)) (λ e. not (has_partner partners e.0))
        (λ e f is. ap not (taken_is partners e.0 (f.0, is.0.0) apart own is.0.1)) (keyed_from tier 0 (untag T)) (tag_keyed tier T)
        (zip_keyed tier 0 T (λ m x is. let at : 0 + m ≡ m = omega arith in ap (slice_get T) at ∙ is)))) all

    pairs_are : (tier : Tier) (partners : List (Option ℕ)) → IsOwn partners
        → ArePairs same_parts parts_refl IsAt (left partners (keyed_from tier 0 cs)) (pairs_at cs (untag T) partners tier)
    pairs_are tier partners own =
        pairs_own same_parts parts_refl IsAt [] (left partners (keyed_from tier 0 cs)) (free partners (keyed_from tier 0 (untag T)))
        (ranked tier partners own)

    after_own : (tier : Tier) (partners : List (Option ℕ)) → length partners ≡ length cs → IsOwn partners → IsOwn (after_tier cs (untag T) partners tier)
    after_own tier partners long own =
        put_own (length (untag T)) partners (left partners (keyed_from tier 0 cs)) (pairs_at cs (untag T) partners tier) own
        (pairs_are tier partners own) (Fits-pairs_at cs (untag T) partners tier long)

    after_long : (tier : Tier) (partners : List (Option ℕ)) → length partners ≡ length cs → length (after_tier cs (untag T) partners tier) ≡ length cs
    after_long tier partners long = put_long partners (pairs_at cs (untag T) partners tier) ∙ long

    after_keeps : (tier : Tier) (partners : List (Option ℕ)) (i : ℕ) → length partners ≡ length cs → has_partner partners i ≡ true
        → has_partner (after_tier cs (untag T) partners tier) i ≡ true
    after_keeps tier partners i long has =
        put_keeps (length (untag T)) partners (pairs_at cs (untag T) partners tier) i (Fits-pairs_at cs (untag T) partners tier long) has

    -- a result with a key at the tier has a match after it
    after_has : (tier : Tier) (partners : List (Option ℕ)) (i : ℕ) (r : Record) (key : KeyParts) → length partners ≡ length cs → IsOwn partners
        → slice_get cs i ≡ Some r → key_of r tier ≡ Some key → has_partner (after_tier cs (untag T) partners tier) i ≡ true
    after_has tier partners i r key long own found is = by_test (has_partner partners i) refl
      where
        by_test : (b : Bool) → has_partner partners i ≡ b → has_partner (after_tier cs (untag T) partners tier) i ≡ true
        by_test true has = after_keeps tier partners i long has
        by_test false none =
            put_new (length (untag T)) partners (left partners (keyed_from tier 0 cs)) (pairs_at cs (untag T) partners tier) i
            (pairs_are tier partners own) (Fits-pairs_at cs (untag T) partners tier long)
            (let at : i ≡ 0 + i = omega arith in keyed_there tier partners 0 i i cs r key at found is none)

    pub all_own : (tiers : List Tier) (partners : List (Option ℕ)) → length partners ≡ length cs → IsOwn partners
        → IsOwn (fold (after_tier cs (untag T)) partners tiers)
    all_own [] partners long own = own
    all_own (tier ∷ tiers) partners long own =
        all_own tiers (after_tier cs (untag T) partners tier) (after_long tier partners long) (after_own tier partners long own)

    all_keep : (tiers : List Tier) (partners : List (Option ℕ)) (i : ℕ) → length partners ≡ length cs → has_partner partners i ≡ true
        → has_partner (fold (after_tier cs (untag T)) partners tiers) i ≡ true
    all_keep [] partners i long has = has
    all_keep (tier ∷ tiers) partners i long has =
        all_keep tiers (after_tier cs (untag T) partners tier) i (after_long tier partners long) (after_keeps tier partners i long has)

    pub all_have : (tiers : List Tier) (partners : List (Option ℕ)) (i : ℕ) (r : Record) (tier : Tier) (key : KeyParts) → IsIn tier tiers
        → length partners ≡ length cs → IsOwn partners → slice_get cs i ≡ Some r → key_of r tier ≡ Some key
        → has_partner (fold (after_tier cs (untag T)) partners tiers) i ≡ true
    all_have [] partners i r tier key among long own found is = absurd among
    all_have (t ∷ tiers) partners i r tier key (inl here) long own found is =
        all_keep tiers (after_tier cs (untag T) partners t) i (after_long t partners long)
        (after_has t partners i r key long own found (ap (key_of r) (sym here) ∙ is))
    all_have (t ∷ tiers) partners i r tier key (inr later) long own found is =
        all_have tiers (after_tier cs (untag T) partners t) i r tier key later (after_long t partners long) (after_own t partners long own) found is

    pub all_long : (tiers : List Tier) (partners : List (Option ℕ)) → length partners ≡ length cs
        → length (fold (after_tier cs (untag T)) partners tiers) ≡ length cs
    all_long [] partners long = long
    all_long (tier ∷ tiers) partners long = all_long tiers (after_tier cs (untag T) partners tier) (after_long tier partners long)
