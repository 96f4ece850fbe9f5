-- A baseline that has the current results, and of each tool its others after them: each current result is matched with
-- itself, and exactly the others stay unmatched.
use Rattle.std.proofs.Common.{◌≡◌, ℕ, ◌+◌, ◌<◌, ◌≤◌, zero, suc, Bool, true, false, cond, not, ◌&&◌, ◌||◌, ◌⊎◌, inl, inr, bytes_eq, List, [], ◌∷◌, ◌++◌, Option, Some, None, option_map, length, map, slice_get, slice_index_or, replicate, is_some, refl, sym, ap, ap₂, subst, ◌∙◌, arith, ⊎_elim, eq-eqb, true≢false, if◌then◌else◌}
use Rattle.std.specs.Prelude.{filter, nat_lt}
use Rattle.std.specs.List.{AllByRecursion, list_any, range_with_len}
use Rattle.std.proofs.lemmas.Bool.{cases_lt, le-ltb, lt-ltb}
use Rattle.std.proofs.lemmas.List.{get_or_past, length-replicate}
use Rattle.std.proofs.lemmas.Option.{slice_get-map}
use Rattle.sarif_model.specs.declared.kinds.State.TheVariants.{Unchanged, Updated}
use Rattle.sarif_model.specs.declared.record.Record.{Record}
use Rattle.sarif_match.specs.Partners.{has_partner, is_taken, partners_of}
use Rattle.sarif_evidence.specs.declared.version.MatchingVersion.{MatchingVersion}
use Rattle.sarif_evidence.specs.declared.version.MatchingVersion.TheVariants.{Two, Three}
use Rattle.sarif_evidence.specs.Evidence.{are_same_members, by_snippets, has_evidence, has_other_evidence, is_same_guid, share_member, state_in}
use Rattle.sarif_evidence.specs.EqualParts.{is_empty, pairs_eq}
use Rattle.sarif_evidence.specs.Seen.{seen}
use Rattle.sarif_evidence.specs.State.{is_unchanged, state_of}
use Rattle.sarif_match.specs.Tiers.{tiers_of}
use Rattle.sarif_evidence.proofs.StateLemmas.{equal_is_unchanged}
use Rattle.sarif_known.specs.Selected.{keep_unless, unmatched_of}
use Rattle.sarif_log.specs.LogBy.{partner_in, states_from, states_of, taken_of}
use Rattle.sarif_laws.proofs.Arranged.{itself, all_arranged, apart_arranged, arranged, AreApart, Fits, fits_long, of_tagged, of_tool, same_of_tool, untag, untagged}
use Rattle.sarif_laws.proofs.Keyed.{numbered, tool_of}
use Rattle.sarif_laws.proofs.Matched.{all_get, all_have, all_long, all_own, IsOwn, some_of, taken_is}
use Rattle.sarif_match_laws.proofs.Keyed.{filter_swap}
use Rattle.sarif_laws.proofs.Ranked.{get_front}
use Rattle.sarif_laws.proofs.Tiered.{has_tier, not_empty}

-- ---- numbered lists

module _ {Y : Type 0} where
  above : (m n : ℕ) (ys : List Y) → m < n → AllByRecursion (λ e. m ≡ e.0 → ⊥) (numbered n ys)
  above m n [] lt = tt
  above m n (y ∷ ys) lt = (λ same. omega (arith, lt, same), above m (suc n) ys (omega (arith, lt)))

  pub apart_numbered : (n : ℕ) (ys : List Y) → AreApart (numbered n ys)
  apart_numbered n [] = tt
  apart_numbered n (y ∷ ys) = (above n (suc n) ys (omega arith), apart_numbered (suc n) ys)

  pub at_numbered : (all : List Y) (n : ℕ) (ys : List Y) → ((m : ℕ) (y : Y) → slice_get ys m ≡ Some y → slice_get all (n + m) ≡ Some y)
      → AllByRecursion (λ e. slice_get all e.0 ≡ Some e.1) (numbered n ys)
  at_numbered all n [] within = tt
  at_numbered all n (y ∷ ys) within =
      let first : n ≡ n + 0 = omega arith in (
        ap (slice_get all) first
            ∙ within 0 y refl,
        at_numbered all (suc n) ys
            (λ m z is. let next : suc n + m ≡ n + suc m = omega arith in ap (slice_get all) next ∙ within (suc m) z is),
      )

  -- the elements from number n on
  from_here : (n m : ℕ) (ys : List Y) → n ≤ m → filter (λ e. not (nat_lt e.0 n)) (numbered m ys) ≡ numbered m ys
  from_here n m [] le = refl
  from_here n m (y ∷ ys) le =
      ap (λ b. cond (not b) ((m, y) ∷ filter (λ (e : ℕ × Y). not (nat_lt e.0 n)) (numbered (suc m) ys))
      (filter (λ (e : ℕ × Y). not (nat_lt e.0 n)) (numbered (suc m) ys))) (le-ltb m n le)
      ∙ ap (λ l. (m, y) ∷ l) (from_here n (suc m) ys (omega (arith, le)))

  pub from_number : (n m : ℕ) (xs ys : List Y) → m + length xs ≡ n → filter (λ e. not (nat_lt e.0 n)) (numbered m (xs ++ ys)) ≡ numbered n ys
  from_number n m [] ys is = let here : m ≡ n = omega (arith, is) in from_here n m ys (omega (arith, is)) ∙ ap (λ k. numbered k ys) here
  from_number n m (x ∷ xs) ys is =
      ap (λ b. cond (not b) ((m, x) ∷ filter (λ (e : ℕ × Y). not (nat_lt e.0 n)) (numbered (suc m) (xs ++ ys)))
      (filter (λ (e : ℕ × Y). not (nat_lt e.0 n)) (numbered (suc m) (xs ++ ys)))) (lt-ltb m n (omega (arith, is)))
      ∙ from_number n (suc m) xs ys (omega (arith, is))

pub untag_of : (t : List ℕ) (xs : List (ℕ × Record)) → of_tool tool_of t (untag xs) ≡ untag (of_tagged tool_of t xs)
untag_of t [] = refl
untag_of t (x ∷ xs) =
    elim (bytes_eq x.1.tool t) as
    (λ b. cond b (x.1 ∷ of_tool tool_of t (untag xs)) (of_tool tool_of t (untag xs))
    ≡ untag (cond b (x ∷ of_tagged tool_of t xs) (of_tagged tool_of t xs)))
    [ true ↦ ap (λ l. x.1 ∷ l) (untag_of t xs) | false ↦ untag_of t xs ]

untag_numbered : (n : ℕ) (rs : List Record) → untag (numbered n rs) ≡ rs
untag_numbered n [] = refl
untag_numbered n (r ∷ rs) = ap (λ l. r ∷ l) (untag_numbered (suc n) rs)

pub of_numbered : (t : List ℕ) (n : ℕ) (rs : List Record) → untag (of_tagged tool_of t (numbered n rs)) ≡ of_tool tool_of t rs
of_numbered t n rs = sym (untag_of t (numbered n rs)) ∙ ap (of_tool tool_of t) (untag_numbered n rs)

numbered_long : (n : ℕ) (rs : List Record) → length (numbered n rs) ≡ length rs
numbered_long n [] = refl
numbered_long n (r ∷ rs) = ap suc (numbered_long (suc n) rs)

-- lists with the same records of each tool are equally long
pub same_long : (rs others : List Record) → ((t : List ℕ) → of_tool tool_of t rs ≡ of_tool tool_of t others) → length rs ≡ length others
same_long rs others same = sym (fits_long tool_of rs (numbered 0 others) (λ t. same t ∙ sym (of_numbered t 0 others))) ∙ numbered_long 0 others

pub nobody : (n i j : ℕ) → slice_index_or (replicate n None) i None ≡ Some j → ⊥
nobody zero i j found = cc
nobody (suc n) zero j found = cc
nobody (suc n) (suc i) j found = nobody n i j found

-- ---- states and unmatched results, by what is so of each

-- a result that is its own match is unchanged
same_guid_or : (o : Option ℕ) (rest : Bool) → rest ≡ true ⊎ is_some o ≡ true → is_same_guid o o || rest ≡ true
same_guid_or None rest (inl is) = is
same_guid_or None rest (inr is) = absurd (true≢false (sym is))
same_guid_or (Some guid) rest either = ap (λ b. b || rest) (eq-eqb guid guid refl)

own_evidence : (r : Record) → has_evidence r r ≡ true
own_evidence r = by_snippet r.snippet
  where
    pair_same : (p : List ℕ × List ℕ) → bytes_eq p.0 p.0 && bytes_eq p.1 p.1 ≡ true
    pair_same p = ap₂ (λ a b. a && b) (itself p.0) (itself p.1)

    pairs_same : (ps : List (List ℕ × List ℕ)) → pairs_eq ps ps ≡ true
    pairs_same [] = refl
    pairs_same (p ∷ ps) = ap₂ (λ a b. a && b) (pair_same p) (pairs_same ps)

    by_partial : (ps : List (List ℕ × List ℕ)) → are_same_members ps ps || (is_empty ps && is_empty ps) ≡ true
    by_partial [] = refl
    by_partial (p ∷ ps) =
        ap (λ b. (not b && pairs_eq (p ∷ ps) (p ∷ ps)) || (b && b)) (not_empty p ps) ∙ ap (λ b. b || false) (pairs_same (p ∷ ps))

    by_full : (full partial : List (List ℕ × List ℕ))
        → share_member full full
        || (are_same_members partial partial || ((is_empty full && is_empty partial) && (is_empty full && is_empty partial))) ≡ true
    by_full [] partial = by_partial partial
    by_full (p ∷ ps) partial =
        let here : share_member (p ∷ ps) (p ∷ ps) ≡ true =
        ap (λ b. (b || list_any (λ (other : List ℕ × List ℕ). bytes_eq other.0 p.0 && bytes_eq other.1 p.1) ps)
        || list_any (λ (member : List ℕ × List ℕ). list_any (λ (other : List ℕ × List ℕ). bytes_eq other.0 member.0 && bytes_eq other.1 member.1) (p ∷ ps)) ps)
        (pair_same p) in
        ap (λ b. b || (are_same_members partial partial
        || ((is_empty (p ∷ ps) && is_empty partial) && (is_empty (p ∷ ps) && is_empty partial)))) here

    by_snippet : (o : Option (List ℕ)) → by_snippets o o (has_other_evidence r r) ≡ true
    by_snippet None = same_guid_or r.guid _ (inl (by_full r.full r.partial))
    by_snippet (Some text) = itself text

pub own_unchanged : (v : MatchingVersion) (r : Record) → state_in v r (Some r) ≡ Unchanged
own_unchanged Two r = equal_is_unchanged r r (record { kind = refl; level = refl; message = refl; place = refl })
own_unchanged Three r =
    by_both (is_unchanged r r) (has_evidence (seen r) (seen r))
    (unchanged_is (equal_is_unchanged r r (record { kind = refl; level = refl; message = refl; place = refl }))) (own_evidence (seen r))
  where
    unchanged_is : state_of r (Some r) ≡ Unchanged → is_unchanged r r ≡ true
    unchanged_is is = by_test (is_unchanged r r) is
      where
        by_test : (b : Bool) → (if b then Unchanged else Updated) ≡ Unchanged → b ≡ true
        by_test true is = refl
        by_test false is = let never : ⊥ = cc in absurd never

    by_both : (a b : Bool) → a ≡ true → b ≡ true → (if a && b then Unchanged else Updated) ≡ Unchanged
    by_both true true first second = refl
    by_both true false first second = absurd (true≢false (sym second))
    by_both false b first second = absurd (true≢false (sym first))

pub all_unchanged : (v : MatchingVersion) (bs : List Record) (partners : List (Option ℕ)) (n : ℕ) (rs : List Record)
    → ((m : ℕ) (r : Record) → slice_get rs m ≡ Some r → partner_in bs (slice_index_or partners (n + m) None) ≡ Some r)
    → AllByRecursion (λ s. s ≡ Unchanged) (states_from v bs partners n rs)
all_unchanged v bs partners n [] matched = tt
all_unchanged v bs partners n (r ∷ rs) matched =
    let first : n ≡ n + 0 = omega arith in (
      ap (state_in v r) (ap (λ k. partner_in bs (slice_index_or partners k None)) first ∙ matched 0 r refl) ∙ own_unchanged v r,
      all_unchanged v bs partners (n + 1) rs
          (λ m s is. let next : n + 1 + m ≡ n + suc m =
          omega arith in ap (λ k. partner_in bs (slice_index_or partners k None)) next ∙ matched (suc m) s is),
    )

pub unmatched_are : (partners : List (Option ℕ)) (q : ℕ × Record → Bool) (n : ℕ) (rest : List (ℕ × Record))
    → ((m : ℕ) (x : ℕ × Record) → slice_get rest m ≡ Some x → is_taken partners (n + m) ≡ q x)
    → unmatched_of (untag rest) (map (is_taken partners) (range_with_len n (length (untag rest)))) ≡ untag (filter (λ x. not (q x)) rest)
unmatched_are partners q n [] taken = refl
unmatched_are partners q n (x ∷ rest) taken =
    let first : n ≡ n + 0 = omega arith in
    by_test (is_taken partners n) (q x) (ap (is_taken partners) first ∙ taken 0 x refl)
    (unmatched_are partners q (n + 1) rest (λ m y is. let next : n + 1 + m ≡ n + suc m = omega arith in ap (is_taken partners) next ∙ taken (suc m) y is))
  where
    by_test : (a b : Bool) → a ≡ b
        → unmatched_of (untag rest) (map (is_taken partners) (range_with_len (n + 1) (length (untag rest)))) ≡ untag (filter (λ x. not (q x)) rest)
        → keep_unless a x.1 (unmatched_of (untag rest) (map (is_taken partners) (range_with_len (n + 1) (length (untag rest)))))
        ≡ untag (cond (not b) (x ∷ filter (λ x. not (q x)) rest) (filter (λ x. not (q x)) rest))
    by_test true true same later = later
    by_test true false same later = let never : ⊥ = cc in absurd never
    by_test false true same later = let never : ⊥ = cc in absurd never
    by_test false false same later = ap (λ l. x.1 ∷ l) later

-- ---- the law

module _ (cs more bs : List Record) (same_tools : (t : List ℕ) → of_tool tool_of t bs ≡ of_tool tool_of t (cs ++ more)) where
  abbrev tags : List (ℕ × Record)
  tags = arranged tool_of bs (numbered 0 (cs ++ more))

  fits : Fits tool_of bs (numbered 0 (cs ++ more))
  fits t = same_tools t ∙ sym (of_numbered t 0 (cs ++ more))

  are : untag tags ≡ bs
  are = untagged tool_of bs (numbered 0 (cs ++ more)) fits

  apart : AreApart tags
  apart = apart_arranged tool_of bs (numbered 0 (cs ++ more)) (apart_numbered 0 (cs ++ more))

  same : (t : List ℕ) → of_tagged tool_of t tags ≡ of_tagged tool_of t (numbered 0 (cs ++ more))
  same t = same_of_tool tool_of t bs (numbered 0 (cs ++ more)) fits

  at_own : AllByRecursion (λ (e : ℕ × Record). slice_get (cs ++ more) e.0 ≡ Some e.1) tags
  at_own = all_arranged tool_of (λ (e : ℕ × Record). slice_get (cs ++ more) e.0 ≡ Some e.1) bs (numbered 0 (cs ++ more))
      (at_numbered (cs ++ more) 0 (cs ++ more) (λ m y is. let zero_more : 0 + m ≡ m = omega arith in ap (slice_get (cs ++ more)) zero_more ∙ is))

  none_yet : IsOwn tags (replicate (length cs) None)
  none_yet = record { at = λ i j found. absurd (nobody (length cs) i j found) }

  own : IsOwn tags (partners_of cs (untag tags))
  own = all_own tags cs more apart same (tiers_of cs (untag tags)) (replicate (length cs) None) (length-replicate (length cs) None) none_yet

  long : length (partners_of cs (untag tags)) ≡ length cs
  long = all_long tags cs more apart same (tiers_of cs (untag tags)) (replicate (length cs) None) (length-replicate (length cs) None)

  has : (i : ℕ) (r : Record) → slice_get cs i ≡ Some r → has_partner (partners_of cs (untag tags)) i ≡ true
  has i r found =
      let t = has_tier cs (untag tags) r i found in
      all_have tags cs more apart same (tiers_of cs (untag tags)) (replicate (length cs) None) i r t.tier t.key t.among
      (length-replicate (length cs) None) none_yet found t.is

  matched_there : (i : ℕ) (r : Record) → slice_get cs i ≡ Some r → partner_in (untag tags) (slice_index_or (partners_of cs (untag tags)) i None) ≡ Some r
  matched_there i r found =
      let some = some_of (slice_index_or (partners_of cs (untag tags)) i None) (has i r found) in
      let at = own.at i some.0 some.1 in
      let here : slice_get (cs ++ more) i ≡ Some at.0 = all_get (λ (e : ℕ × Record). slice_get (cs ++ more) e.0 ≡ Some e.1) tags some.0 (i, at.0) at_own at.1 in
      ap (partner_in (untag tags)) some.1 ∙ slice_get-map (λ (e : ℕ × Record). e.1) tags some.0 ∙ ap (option_map (λ (e : ℕ × Record). e.1)) at.1
      ∙ sym here ∙ get_front cs more i r found

  -- each current result is matched with itself
  pub matched : (i : ℕ) (r : Record) → slice_get cs i ≡ Some r → partner_in bs (slice_index_or (partners_of cs bs) i None) ≡ Some r
  matched i r found = subst (λ l. partner_in l (slice_index_or (partners_of cs l) i None) ≡ Some r) are (matched_there i r found)

  pub unchanged : AllByRecursion (λ s. s ≡ Unchanged) (states_of Two cs bs)
  unchanged =
      all_unchanged Two bs (partners_of cs bs) 0 cs
      (λ m r is. let zero_more : 0 + m ≡ m =
      omega arith in ap (λ k. partner_in bs (slice_index_or (partners_of cs bs) k None)) zero_more ∙ matched m r is)

  has_just : (i : ℕ) → has_partner (partners_of cs (untag tags)) i ≡ nat_lt i (length cs)
  has_just i = ⊎_elim within past (cases_lt i (length cs))
    where
      within : i < length cs → has_partner (partners_of cs (untag tags)) i ≡ nat_lt i (length cs)
      within lt = by_found (slice_get cs i) refl
        where
          by_found : (o : Option Record) → slice_get cs i ≡ o → has_partner (partners_of cs (untag tags)) i ≡ nat_lt i (length cs)
          by_found (Some r) found = has i r found ∙ sym (lt-ltb i (length cs) lt)
          by_found None found = let never : ⊥ = no_such cs i lt found in absurd never
            where
              no_such : (rs : List Record) (n : ℕ) → n < length rs → slice_get rs n ≡ None → ⊥
              no_such [] n lt found = omega (arith, lt)
              no_such (x ∷ rs) zero lt found = cc
              no_such (x ∷ rs) (suc n) lt found = no_such rs n (omega (arith, lt)) found

      past : length cs ≤ i → has_partner (partners_of cs (untag tags)) i ≡ nat_lt i (length cs)
      past le = ap is_some (get_or_past (partners_of cs (untag tags)) i None (omega (arith, long, le))) ∙ sym (le-ltb i (length cs) le)

  -- exactly the others stay unmatched, the results of each tool in order
  pub unmatched : (t : List ℕ) → of_tool tool_of t (unmatched_of bs (taken_of Two cs bs)) ≡ of_tool tool_of t more
  unmatched t =
      ap (λ l. of_tool tool_of t (unmatched_of l (taken_of Two cs l))) (sym are)
      ∙ ap (of_tool tool_of t)
      (unmatched_are (partners_of cs (untag tags)) (λ x. nat_lt x.0 (length cs)) 0 tags
      (λ m x is. let zero_more : 0 + m ≡ m =
      omega arith in ap (is_taken (partners_of cs (untag tags))) zero_more ∙ taken_is tags (partners_of cs (untag tags)) m x apart own is
      ∙ has_just x.0))
      ∙ untag_of t (filter (λ (x : ℕ × Record). not (nat_lt x.0 (length cs))) tags)
      ∙ ap untag
      (filter_swap (λ (x : ℕ × Record). bytes_eq x.1.tool t) (λ (x : ℕ × Record). not (nat_lt x.0 (length cs))) tags
      ∙ ap (filter (λ (x : ℕ × Record). not (nat_lt x.0 (length cs)))) (same t)
      ∙ sym (filter_swap (λ (x : ℕ × Record). bytes_eq x.1.tool t) (λ (x : ℕ × Record). not (nat_lt x.0 (length cs))) (numbered 0 (cs ++ more)))
      ∙ ap (of_tagged tool_of t) (from_number (length cs) 0 cs more (omega arith)))
      ∙ of_numbered t (length cs) more
