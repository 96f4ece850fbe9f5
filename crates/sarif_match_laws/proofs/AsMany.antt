-- Finer tiers leave as many results of each group.
use Rattle.std.proofs.Common.{◌≡◌, ℕ, ◌+◌, ◌-◌, ◌<◌, suc, Bool, true, false, cond, not, ◌&&◌, ◌⊎◌, inl, inr, ⊎_elim, List, [], ◌∷◌, ◌++◌, Option, Some, None, fold, is_some, length, map, option_map, replicate, reverse, slice_get, slice_index_or, refl, sym, ap, ◌∙◌, subst, arith, append_assoc}
use Rattle.std.specs.List.{AllByRecursion}
use Rattle.std.specs.Prelude.{option_and_then}
use Rattle.std.proofs.lemmas.Bool.{true≢false, and_parts}
use Rattle.std.proofs.lemmas.List.{length-map, length-reverse, reverse-append}
use Rattle.std.proofs.lemmas.List.Sums.{fold-append}
use Rattle.std.proofs.lemmas.Option.{same_Some}
use Rattle.sarif_model.specs.declared.record.Record.{Record}
use Rattle.sarif_match.specs.declared.tier.Tier.{Tier}
use Rattle.sarif_match.specs.declared.tier.Tier.TheVariants.{Guid, Same, SameText, FingerprintHere, Fingerprint, PartialHere, PartialMoved, PlaceText, Place, PlaceLeft}
use Rattle.sarif_evidence.specs.declared.version.MatchingVersion.TheVariants.{Three}
use Rattle.sarif_match.specs.Key.{group_of, is_unnamed, key_of}
use Rattle.sarif_evidence.specs.EqualParts.{is_empty}
use Rattle.sarif_match.specs.KeyParts.{Group, KeyParts, group_eq, guid_parts, fingerprint_parts, partial_here_parts, partial_moved_parts, place_parts, region_parts, text_parts, fingerprint_here_parts, place_text_parts, place_left_parts}
use Rattle.sarif_match.specs.Partners.{after_tier, from_end, has_partner, is_taken, pairs_at, partners_after, partners_in, seen_from_end}
use Rattle.sarif_evidence.specs.Seen.{seen}
use Rattle.sarif_match.specs.Tiers.{falling_names, tiers_in}
use Rattle.sarif_match_laws.specs.Leaving.{LeaveAsMany, count_left, is_of, partners_by, tiers_without_places}
use Rattle.sarif_match.specs.Internal.Paired.{key_at}
use Rattle.sarif_match.specs.Internal.Turned.{AreBelow}
use Rattle.sarif_match_laws.proofs.CountLemmas.{PairAlike, count_some, counted_alike, fresh_pairs}
use Rattle.sarif_match.proofs.FitsLemmas.{Fits-pairs_at}
use Rattle.sarif_match.proofs.LawLemmas.{after_counted, after_counts, paired_once}
use Rattle.sarif_match_laws.proofs.NoneLeft.{no_common_key}
use Rattle.sarif_match_laws.proofs.PairEvidence.{guarded, mapped, where_so}
use Rattle.sarif_match.proofs.PairedLemmas.{paired-of}
use Rattle.sarif_match.proofs.PartsLemmas.{group_same}
use Rattle.sarif_match.proofs.SplitLemmas.{HasPair, none_is_no_some}
use Rattle.sarif_match.proofs.TurnedLemmas.{length-seen, partner_turned, partners_below, taken_within}

-- ---- tiers by group

abbrev pub group_in : Group → KeyParts → Group
group_in other (guid_parts t g) = other
group_in other (fingerprint_parts t n v) = other
group_in other (partial_here_parts t r p m) = other
group_in other (partial_moved_parts t r m) = other
group_in other (place_parts t r p m) = record { tool = t; rule_id = r; place = p; message = m }
group_in other (region_parts g f m s l) = g
group_in other (text_parts g f m s) = g
group_in other (fingerprint_here_parts g n v) = g
group_in other (place_text_parts g s) = g
group_in other (place_left_parts g) = g

-- a result with this key has no GUID and is of the group of the key
abbrev pub HasGroup : Record → KeyParts → Type 0
HasGroup r key = (r.guid ≡ None) × ((other : Group) → group_in other key ≡ group_of r)

no_guid : (guid : Option ℕ) → not (is_some guid) ≡ true → guid ≡ None
no_guid None is = refl
no_guid (Some g) is = absurd (true≢false (sym is))

pub group_same_tier : (r : Record) (key : KeyParts) → key_of r Same ≡ Some key → HasGroup r key
group_same_tier r key is =
    let g = guarded r.guid _ key is in
    let m = mapped (λ region. region_parts (group_of r) r.full r.partial r.snippet region) r.region key g.1 in
    (g.0, λ other. sym (ap (group_in other) m.2))

pub group_same_text : (r : Record) (key : KeyParts) → key_of r SameText ≡ Some key → HasGroup r key
group_same_text r key is =
    let g = guarded r.guid _ key is in
    let m = mapped (λ snippet. text_parts (group_of r) r.full r.partial snippet) r.snippet key g.1 in
    (g.0, λ other. sym (ap (group_in other) m.2))

pub group_place_text : (r : Record) (key : KeyParts) → key_of r PlaceText ≡ Some key → HasGroup r key
group_place_text r key is =
    let g = guarded r.guid _ key is in
    let m = mapped (λ snippet. place_text_parts (group_of r) snippet) r.snippet key g.1 in
    (g.0, λ other. sym (ap (group_in other) m.2))

pub group_place : (r : Record) (key : KeyParts) → key_of r Place ≡ Some key → HasGroup r key
group_place r key is =
    let m = where_so (is_unnamed r) (place_parts r.tool r.rule_id r.place r.message) key is in
    let both = and_parts (not (is_some r.guid)) (is_empty r.full && is_empty r.partial) m.0 in
    (no_guid r.guid both.0, λ other. sym (ap (group_in other) m.1))

pub group_place_left : (r : Record) (key : KeyParts) → key_of r PlaceLeft ≡ Some key → HasGroup r key
group_place_left r key is =
    let g = guarded r.guid _ key is in
    (g.0, λ other. sym (ap (group_in other) (same_Some (place_left_parts (group_of r)) key g.1)))

pub found_at : (tier : Tier) (rs : List Record) (i : ℕ) (key : KeyParts) → key_at tier rs i ≡ Some key
    → (r : Record) × (slice_get rs i ≡ Some r) × (key_of r tier ≡ Some key)
found_at tier rs i key is = by_result (slice_get rs i) refl
  where
    by_result : (o : Option Record) → slice_get rs i ≡ o → (r : Record) × (slice_get rs i ≡ Some r) × (key_of r tier ≡ Some key)
    by_result None none = absurd (none_is_no_some key (sym (ap (option_and_then (λ (r : Record). key_of r tier)) none) ∙ is))
    by_result (Some r) found = (r, found, sym (ap (option_and_then (λ (x : Record). key_of x tier)) found) ∙ is)

module _ (cs bs : List Record) where
  -- equal keys at this tier are those of two results of one group, both without a GUID
  abbrev pub IsWithin : Tier → Type 0
  IsWithin tier = (i j : ℕ) (key : KeyParts) → key_at tier cs i ≡ Some key → key_at tier bs j ≡ Some key
      → (r : Record) × (b : Record) × (slice_get cs i ≡ Some r) × (slice_get bs j ≡ Some b) × (r.guid ≡ None) × (b.guid ≡ None) × (group_of r ≡ group_of b)

  pub within_of : (tier : Tier) → ((r : Record) (key : KeyParts) → key_of r tier ≡ Some key → HasGroup r key) → IsWithin tier
  within_of tier each i j key c_is b_is =
      let c = found_at tier cs i key c_is in
      let b = found_at tier bs j key b_is in
      let of_c = each c.0 key c.2 in
      let of_b = each b.0 key b.2 in
      (c.0, b.0, c.1, b.1, of_c.0, of_b.0, sym (of_c.1 (group_of c.0)) ∙ of_b.1 (group_of c.0))

  -- ---- one tier, and several

  module _ (test other : Record → Bool)
      (same : (r b : Record) → r.guid ≡ None → b.guid ≡ None → group_of r ≡ group_of b → test r ≡ other b) where
    alike_pairs : (partners : List (Option ℕ)) (tier : Tier) → IsWithin tier → (ps : List (ℕ × ℕ))
        → ((i j : ℕ) → HasPair ps i j → HasPair (pairs_at cs bs partners tier) i j) → PairAlike cs bs test other ps
    alike_pairs partners tier within [] among = tt
    alike_pairs partners tier within (p ∷ ps) among =
        let paired = paired-of cs bs partners tier p.0 p.1 (among p.0 p.1 (inl refl)) in
        let w = within p.0 p.1 paired.key paired.current_key paired.baseline_key in
        ((w.0, w.1, w.2, w.3, same w.0 w.1 w.4 w.5 w.6), alike_pairs partners tier within ps (λ i j h. among i j (inr h)))

    tier_moves : (partners : List (Option ℕ)) (tier : Tier) → length partners ≡ length cs → IsWithin tier
        → count_left test (has_partner partners) 0 cs + count_left other (is_taken (after_tier cs bs partners tier)) 0 bs
        ≡ count_left test (has_partner (after_tier cs bs partners tier)) 0 cs + count_left other (is_taken partners) 0 bs
    tier_moves partners tier counted within =
        counted_alike cs bs test other partners (pairs_at cs bs partners tier)
        (fresh_pairs (length bs) partners (pairs_at cs bs partners tier) (Fits-pairs_at cs bs partners tier counted)
        (λ i j h. (paired-of cs bs partners tier i j h).baseline_left)
        (λ i k j a b. paired_once cs bs partners tier i k j (paired-of cs bs partners tier i j a) (paired-of cs bs partners tier k j b)))
        (alike_pairs partners tier within (pairs_at cs bs partners tier) (λ i j h. h))

    all_move : (tiers : List Tier) (partners : List (Option ℕ)) → length partners ≡ length cs → AllByRecursion IsWithin tiers
        → count_left test (has_partner partners) 0 cs + count_left other (is_taken (fold (after_tier cs bs) partners tiers)) 0 bs
        ≡ count_left test (has_partner (fold (after_tier cs bs) partners tiers)) 0 cs + count_left other (is_taken partners) 0 bs
    all_move [] partners counted within = refl
    all_move (t ∷ ts) partners counted within =
        let first = tier_moves partners t counted within.0 in
        let rest = all_move ts (after_tier cs bs partners t) (after_counted cs bs partners t counted) within.1 in
        omega (arith, first, rest)

  -- ---- the results of one group

  module _ (group : Group) where
    abbrev pub is_spare : Record → Bool
    is_spare r = not (is_some r.guid) && is_of group r

    of_same : (r b : Record) → r.guid ≡ None → b.guid ≡ None → group_of r ≡ group_of b → is_of group r ≡ is_of group b
    of_same r b none nor same = ap (λ (g : Group). group_eq g group) same

    spare_same : (r b : Record) → r.guid ≡ None → b.guid ≡ None → group_of r ≡ group_of b → is_spare r ≡ is_spare b
    spare_same r b none nor same = λ i. not (is_some ((none ∙ sym nor) i)) && group_eq (same i) group

    of_spare : (r b : Record) → r.guid ≡ None → b.guid ≡ None → group_of r ≡ group_of b → is_of group r ≡ is_spare b
    of_spare r b none nor same = of_same r b none nor same ∙ sym (ap (λ (guid : Option ℕ). not (is_some guid) && is_of group b) nor)

    spare_of : (r b : Record) → r.guid ≡ None → b.guid ≡ None → group_of r ≡ group_of b → is_spare r ≡ is_of group b
    spare_of r b none nor same = ap (λ (guid : Option ℕ). not (is_some guid) && is_of group r) none ∙ of_same r b none nor same

    -- from these counts to those
    pub record Moved (from to : List (Option ℕ)) : Type 0 where
      pub spares : count_left is_spare (has_partner from) 0 cs + count_left is_spare (is_taken to) 0 bs
          ≡ count_left is_spare (has_partner to) 0 cs + count_left is_spare (is_taken from) 0 bs
      pub current : count_left (is_of group) (has_partner from) 0 cs + count_left is_spare (is_taken to) 0 bs
          ≡ count_left (is_of group) (has_partner to) 0 cs + count_left is_spare (is_taken from) 0 bs
      pub baseline : count_left is_spare (has_partner from) 0 cs + count_left (is_of group) (is_taken to) 0 bs
          ≡ count_left is_spare (has_partner to) 0 cs + count_left (is_of group) (is_taken from) 0 bs
      pub ended : (count_left is_spare (has_partner to) 0 cs ≡ 0) ⊎ (count_left is_spare (is_taken to) 0 bs ≡ 0)

    pub has_last_key : (rs : List Record) (m : ℕ) (r : Record) → slice_get rs m ≡ Some r → is_spare r ≡ true
        → key_at PlaceLeft rs m ≡ Some (place_left_parts group)
    has_last_key rs m r here is =
        let both = and_parts (not (is_some r.guid)) (is_of group r) is in
        ap (option_and_then (λ (x : Record). key_of x PlaceLeft)) here
        ∙ ap (λ (o : Option ℕ). cond (is_some o) None (Some (place_left_parts (group_of r)))) (no_guid r.guid both.0)
        ∙ ap (λ (g : Group). Some (place_left_parts g)) (group_same (group_of r) group both.1)

    alone : (o : Option ℕ) → is_some o ≡ false → o ≡ None
    alone None is = refl
    alone (Some j) is = absurd (true≢false is)

    module _ (last : Tier) (key : KeyParts)
        (c_key : (m : ℕ) (r : Record) → slice_get cs m ≡ Some r → is_spare r ≡ true → key_at last cs m ≡ Some key)
        (b_key : (m : ℕ) (r : Record) → slice_get bs m ≡ Some r → is_spare r ≡ true → key_at last bs m ≡ Some key) where
      -- after the last tier one side has none of the group
      one_side_ends : (before : List Tier) → let to = partners_after cs bs (before ++ (last ∷ [])) in
          (count_left is_spare (has_partner to) 0 cs ≡ 0) ⊎ (count_left is_spare (is_taken to) 0 bs ≡ 0)
      one_side_ends before =
          let to : List (Option ℕ) = partners_after cs bs (before ++ (last ∷ [])) in
          ⊎_elim (λ none. inl none)
          (λ c. ⊎_elim (λ none. inr none)
          (λ b. absurd
          (no_common_key cs bs before [] last c.0 b.0 key
          (alone (slice_index_or to c.0 None) (let at : 0 + c.0 ≡ c.0 = omega arith in ap (has_partner to) (sym at) ∙ c.4))
          (let at : 0 + b.0 ≡ b.0 = omega arith in ap (is_taken to) (sym at) ∙ b.4)
          (c_key c.0 c.1 c.2 c.3) (b_key b.0 b.1 b.2 b.3)))
          (count_some is_spare (is_taken to) 0 bs))
          (count_some is_spare (has_partner to) 0 cs)

      pub moved : (before more : List Tier) → AllByRecursion IsWithin (more ++ (last ∷ []))
          → Moved (partners_after cs bs before) (partners_after cs bs (before ++ (more ++ (last ∷ []))))
      moved before more within =
          let start : List (Option ℕ) = partners_after cs bs before in
          let counted : length start ≡ length cs = after_counts cs bs before in
          let ends_so : List Tier = more ++ (last ∷ []) in
          let goes : fold (after_tier cs bs) start ends_so ≡ partners_after cs bs (before ++ ends_so) =
          sym (fold-append (after_tier cs bs) (replicate (length cs) None) before ends_so) in
          let ends : partners_after cs bs ((before ++ more) ++ (last ∷ [])) ≡ partners_after cs bs (before ++ ends_so) =
          ap (partners_after cs bs) (append_assoc before more (last ∷ [])) in
          record {
            spares = subst (λ (to : List (Option ℕ)). count_left is_spare (has_partner start) 0 cs + count_left is_spare (is_taken to) 0 bs
                ≡ count_left is_spare (has_partner to) 0 cs + count_left is_spare (is_taken start) 0 bs) goes
                (all_move is_spare is_spare spare_same ends_so start counted within);
            current = subst (λ (to : List (Option ℕ)). count_left (is_of group) (has_partner start) 0 cs + count_left is_spare (is_taken to) 0 bs
                ≡ count_left (is_of group) (has_partner to) 0 cs + count_left is_spare (is_taken start) 0 bs) goes
                (all_move (is_of group) is_spare of_spare ends_so start counted within);
            baseline = subst (λ (to : List (Option ℕ)). count_left is_spare (has_partner start) 0 cs + count_left (is_of group) (is_taken to) 0 bs
                ≡ count_left is_spare (has_partner to) 0 cs + count_left (is_of group) (is_taken start) 0 bs) goes
                (all_move is_spare (is_of group) spare_of ends_so start counted within);
            ended = subst (λ (to : List (Option ℕ)). (count_left is_spare (has_partner to) 0 cs ≡ 0) ⊎ (count_left is_spare (is_taken to) 0 bs ≡ 0)) ends
                (one_side_ends (before ++ more));
          }

  -- the counts at the end are given by those at the start
  pub one_count : (c b g x c' b' g' d' e' h' : ℕ) → c + b' ≡ c' + b → g + b' ≡ x + b → c + e' ≡ d' + b → g + e' ≡ h' + b
      → (c' ≡ 0) ⊎ (b' ≡ 0) → (d' ≡ 0) ⊎ (e' ≡ 0) → x ≡ h'
  one_count c b g x c' b' g' d' e' h' one two three four (inl p) (inl q) = omega (arith, one, two, three, four, p, q)
  one_count c b g x c' b' g' d' e' h' one two three four (inl p) (inr q) = omega (arith, one, two, three, four, p, q)
  one_count c b g x c' b' g' d' e' h' one two three four (inr p) (inl q) = omega (arith, one, two, three, four, p, q)
  one_count c b g x c' b' g' d' e' h' one two three four (inr p) (inr q) = omega (arith, one, two, three, four, p, q)

  pub absent_count : (c b g c' b' x d' e' y : ℕ) → c + b' ≡ c' + b → c + x ≡ c' + g → c + e' ≡ d' + b → c + y ≡ d' + g
      → (c' ≡ 0) ⊎ (b' ≡ 0) → (d' ≡ 0) ⊎ (e' ≡ 0) → x ≡ y
  absent_count c b g c' b' x d' e' y one two three four (inl p) (inl q) = omega (arith, one, two, three, four, p, q)
  absent_count c b g c' b' x d' e' y one two three four (inl p) (inr q) = omega (arith, one, two, three, four, p, q)
  absent_count c b g c' b' x d' e' y one two three four (inr p) (inl q) = omega (arith, one, two, three, four, p, q)
  absent_count c b g c' b' x d' e' y one two three four (inr p) (inr q) = omega (arith, one, two, three, four, p, q)

  pub as_many : (before more others : List Tier) → AllByRecursion IsWithin (more ++ (PlaceLeft ∷ []))
      → AllByRecursion IsWithin (others ++ (PlaceLeft ∷ []))
      → LeaveAsMany cs bs (partners_after cs bs (before ++ (more ++ (PlaceLeft ∷ [])))) (partners_after cs bs (before ++ (others ++ (PlaceLeft ∷ []))))
  as_many before more others within also = record {
    new = λ group.
        let a = moved group PlaceLeft (place_left_parts group) (has_last_key group cs) (has_last_key group bs) before more within in
        let b = moved group PlaceLeft (place_left_parts group) (has_last_key group cs) (has_last_key group bs) before others also in
        one_count _ _ _ _ _ _ 0 _ _ _ a.spares a.current b.spares b.current a.ended b.ended;
    absent = λ group.
        let a = moved group PlaceLeft (place_left_parts group) (has_last_key group cs) (has_last_key group bs) before more within in
        let b = moved group PlaceLeft (place_left_parts group) (has_last_key group cs) (has_last_key group bs) before others also in
        absent_count _ _ _ _ _ _ _ _ _ a.spares a.baseline b.spares b.baseline a.ended b.ended;
  }

-- ---- counted from the other end

module _ (test turned_test : Record → Bool) (whatever : (r : Record) → turned_test (seen r) ≡ test r) where
  abbrev one_of : Bool → ℕ
  one_of b = cond b 1 0

  count_append : (done : ℕ → Bool) (n : ℕ) (xs : List Record) (y : Record) → count_left turned_test done n (xs ++ (y ∷ []))
      ≡ count_left turned_test done n xs + one_of (turned_test y && not (done (n + length xs)))
  count_append done n [] y =
      let at : n ≡ n + 0 = omega arith in
      let none : one_of (turned_test y && not (done n)) ≡ one_of (turned_test y && not (done (n + 0))) = ap (λ (m : ℕ). one_of (turned_test y && not (done m))) at in
      omega (arith, none)
  count_append done n (x ∷ xs) y =
      let at : suc n + length xs ≡ n + suc (length xs) = omega arith in
      let more = count_append done (suc n) xs y in
      let last : one_of (turned_test y && not (done (suc n + length xs))) ≡ one_of (turned_test y && not (done (n + suc (length xs)))) =
      ap (λ (m : ℕ). one_of (turned_test y && not (done m))) at in
      omega (arith, more, last)

  pub count_from_end : (done back : ℕ → Bool) (n : ℕ) (rs : List Record) → ((k : ℕ) → k < length rs → done (n + k) ≡ back (from_end (length rs) k))
      → count_left test done n rs ≡ count_left turned_test back 0 (reverse (map seen rs))
  count_from_end done back n [] same = refl
  count_from_end done back n (r ∷ rs) same =
      let xs : List Record = reverse (map seen rs) in
      let counted : length xs ≡ length rs = length-reverse (map seen rs) ∙ length-map rs seen in
      let at : n ≡ n + 0 = omega arith in
      let to : from_end (suc (length rs)) 0 ≡ 0 + length xs = omega (arith, counted) in
      let here : done n ≡ back (0 + length xs) = ap done at ∙ same 0 (omega arith) ∙ ap back to in
      let first : one_of (test r && not (done n)) ≡ one_of (turned_test (seen r) && not (back (0 + length xs))) =
      λ i. one_of (sym (whatever r) i && not (here i)) in
      let rest : count_left test done (suc n) rs ≡ count_left turned_test back 0 xs =
      count_from_end done back (suc n) rs
      (λ k lt. (let up : suc n + k ≡ n + suc k = omega arith in
      let down : from_end (suc (length rs)) (suc k) ≡ from_end (length rs) k = omega arith in ap done up ∙ same (suc k) (omega (arith, lt)) ∙ ap back down)) in
      let whole : count_left turned_test back 0 (reverse (seen r ∷ map seen rs)) ≡ count_left turned_test back 0 (xs ++ (seen r ∷ [])) =
      ap (count_left turned_test back 0) (reverse-append (seen r ∷ []) (map seen rs)) in
      omega (arith, whole, count_append back 0 xs (seen r), first, rest)

module _ (current baseline : List Record) where
  abbrev pub cs_seen : List Record
  cs_seen = seen_from_end current

  abbrev pub bs_seen : List Record
  bs_seen = seen_from_end baseline

  module _ (tiers : List Tier) where
    abbrev pub found : List (Option ℕ)
    found = partners_after cs_seen bs_seen tiers

    counted : length found ≡ length current
    counted = after_counts cs_seen bs_seen tiers ∙ length-seen current

    below : AreBelow (length baseline) found
    below = subst (λ (m : ℕ). AreBelow m found) (length-seen baseline) (partners_below cs_seen bs_seen tiers)

    pub has_turned : (k : ℕ) → k < length current → has_partner (partners_by tiers current baseline) (0 + k) ≡ has_partner found (from_end (length current) k)
    has_turned k lt =
        let at : 0 + k ≡ k = omega arith in
        ap (has_partner (partners_by tiers current baseline)) at
        ∙ ap is_some (partner_turned (length baseline) k found (omega (arith, counted, lt)))
        ∙ mapped_some (slice_index_or found (from_end (length found) k) None)
        ∙ ap (λ (n : ℕ). has_partner found (n - 1 - k)) counted
      where
        mapped_some : (o : Option ℕ) → is_some (option_map (from_end (length baseline)) o) ≡ is_some o
        mapped_some None = refl
        mapped_some (Some j) = refl

    pub taken_turned_at : (k : ℕ) → k < length baseline → is_taken (partners_by tiers current baseline) (0 + k) ≡ is_taken found (from_end (length baseline) k)
    taken_turned_at k lt =
        let at : 0 + k ≡ k = omega arith in
        ap (is_taken (partners_by tiers current baseline)) at ∙ taken_within (length baseline) k found lt below

    pub new_turned : (group : Group) → count_left (is_of group) (has_partner (partners_by tiers current baseline)) 0 current
        ≡ count_left (is_of group) (has_partner found) 0 cs_seen
    new_turned group =
        count_from_end (is_of group) (is_of group) (λ r. refl) (has_partner (partners_by tiers current baseline)) (has_partner found) 0 current has_turned

    pub absent_turned : (group : Group) → count_left (is_of group) (is_taken (partners_by tiers current baseline)) 0 baseline
        ≡ count_left (is_of group) (is_taken found) 0 bs_seen
    absent_turned group =
        count_from_end (is_of group) (is_of group) (λ r. refl) (is_taken (partners_by tiers current baseline)) (is_taken found) 0 baseline taken_turned_at

  pub turned_many : (one other : List Tier) → LeaveAsMany cs_seen bs_seen (found one) (found other)
      → LeaveAsMany current baseline (partners_by one current baseline) (partners_by other current baseline)
  turned_many one other many = record {
    new = λ group. new_turned one group ∙ many.new group ∙ sym (new_turned other group);
    absent = λ group. absent_turned one group ∙ many.absent group ∙ sym (absent_turned other group);
  }

  -- ---- PlaceText and Place

  abbrev before_places : List (List ℕ) → List Tier
  before_places names =
      Guid ∷ (Same ∷ (SameText ∷ (map FingerprintHere names ++ (PartialHere ∷ (map Fingerprint names ++ (PartialMoved ∷ []))))))

  split_tiers : (names : List (List ℕ)) (last : List Tier)
      → Guid ∷ (Same ∷ (SameText ∷ (map FingerprintHere names ++ (PartialHere ∷ (map Fingerprint names ++ (PartialMoved ∷ last))))))
      ≡ before_places names ++ last
  split_tiers names last =
      ap (λ (ts : List Tier). Guid ∷ (Same ∷ (SameText ∷ ts)))
      (ap (λ (ts : List Tier). map FingerprintHere names ++ (PartialHere ∷ ts))
      (sym (append_assoc (map Fingerprint names) (PartialMoved ∷ []) last))
      ∙ sym (append_assoc (map FingerprintHere names) (PartialHere ∷ (map Fingerprint names ++ (PartialMoved ∷ []))) last))

  pub as_many_without_places : LeaveAsMany current baseline (partners_in Three current baseline)
      (partners_by (tiers_without_places current baseline) current baseline)
  as_many_without_places =
      let names = falling_names (map seen current) (map seen baseline) in
      let left = within_of cs_seen bs_seen PlaceLeft group_place_left in
      let text = within_of cs_seen bs_seen PlaceText group_place_text in
      let place = within_of cs_seen bs_seen Place group_place in
      turned_many (tiers_in Three current baseline) (tiers_without_places current baseline)
      (subst (λ (ts : List Tier). LeaveAsMany cs_seen bs_seen (found ts) (found (tiers_without_places current baseline)))
      (sym (split_tiers names (PlaceText ∷ (Place ∷ (PlaceLeft ∷ [])))))
      (subst (λ (ts : List Tier). LeaveAsMany cs_seen bs_seen (found (before_places names ++ (PlaceText ∷ (Place ∷ (PlaceLeft ∷ []))))) (found ts))
      (sym (split_tiers names (PlaceLeft ∷ [])))
      (as_many cs_seen bs_seen (before_places names) (PlaceText ∷ (Place ∷ [])) [] (text, (place, (left, tt))) (left, tt))))
