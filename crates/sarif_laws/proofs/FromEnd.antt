-- In version 3: with a baseline that has the current results, and of each tool its others before them, each current
-- result is matched with itself, and exactly the others stay unmatched.
use Rattle.std.proofs.Common.{◌≡◌, ℕ, ◌+◌, ◌-◌, ◌<◌, ◌≤◌, zero, suc, Bool, true, false, cond, not, bytes_eq, List, [], ◌∷◌, ◌++◌, Option, Some, None, option_map, length, map, get_or, slice_get, slice_index_or, replicate, reverse, is_some, refl, sym, ap, ap₂, subst, ◌∙◌, arith, ⊎_elim}
use Rattle.std.specs.Prelude.{filter, nat_lt}
use Rattle.std.specs.List.{AllByRecursion, range_with_len}
use Rattle.std.proofs.lemmas.Bool.{cases_lt, le-ltb, lt-ltb}
use Rattle.std.proofs.lemmas.List.{append-nil, get_or-reverse, get_or_past, length-map, length-replicate, length-reverse, map-append, reverse-append, reverse-reverse}
use Rattle.std.proofs.lemmas.List.Elements.{filter-append}
use Rattle.std.proofs.lemmas.Option.{same_Some, slice_get-get_or, slice_get-map}
use Rattle.sarif_model.specs.declared.kinds.State.TheVariants.{Unchanged}
use Rattle.sarif_model.specs.declared.record.Record.{Record}
use Rattle.sarif_match.specs.declared.tier.Tier.{Tier}
use Rattle.sarif_evidence.specs.declared.version.MatchingVersion.TheVariants.{Three}
use Rattle.sarif_match.specs.Partners.{from_end, has_partner, is_taken, partners_after, partners_in, seen_from_end, turned}
use Rattle.sarif_evidence.specs.Seen.{seen}
use Rattle.sarif_match.specs.Tiers.{falling_names, finer_tiers}
use Rattle.sarif_match.specs.Internal.Turned.{AreBelow}
use Rattle.sarif_match.proofs.TurnedLemmas.{length-seen, partner_turned, partners_below, taken_within}
use Rattle.sarif_known.specs.Selected.{unmatched_of}
use Rattle.sarif_log.specs.LogBy.{partner_in, states_of, taken_of}
use Rattle.sarif_laws.proofs.Adopted.{all_unchanged, apart_numbered, at_numbered, from_number, nobody, of_numbered, unmatched_are, untag_of}
use Rattle.sarif_laws.proofs.Arranged.{all_arranged, apart_arranged, arranged, AreApart, Fits, of_tagged, of_tool, same_of_tool, untag, untagged}
use Rattle.sarif_laws.proofs.Keyed.{numbered, tool_of}
use Rattle.sarif_laws.proofs.Matched.{all_get, all_have, all_long, all_own, IsOwn, some_of, taken_is}
use Rattle.sarif_match_laws.proofs.Keyed.{filter_swap}
use Rattle.sarif_laws.proofs.Ranked.{get_front}
use Rattle.sarif_laws.proofs.Tiered.{has_finer_tier}

-- ---- lists in reverse order

filter_reverse : {X : Type 0} (p : X → Bool) (xs : List X) → filter p (reverse xs) ≡ reverse (filter p xs)
filter_reverse p [] = refl
filter_reverse {X} p (x ∷ xs) =
    ap (filter p) (reverse-append (x ∷ []) xs) ∙ filter-append p (reverse xs) (x ∷ [])
    ∙ ap (λ l. l ++ filter p (x ∷ [])) (filter_reverse p xs) ∙ by_test (p x)
  where
    by_test : (b : Bool) → reverse (filter p xs) ++ cond b (x ∷ []) [] ≡ reverse (cond b (x ∷ filter p xs) (filter p xs))
    by_test true = sym (reverse-append (x ∷ []) (filter p xs))
    by_test false = append-nil (reverse (filter p xs))

map_reverse : {X : Type 0} {Y : Type 0} (f : X → Y) (xs : List X) → map f (reverse xs) ≡ reverse (map f xs)
map_reverse f [] = refl
map_reverse f (x ∷ xs) =
    ap (map f) (reverse-append (x ∷ []) xs) ∙ map-append f (reverse xs) (x ∷ []) ∙ ap (λ l. l ++ f x ∷ []) (map_reverse f xs)
    ∙ sym (reverse-append (f x ∷ []) (map f xs))

found_in : {X : Type 0} (xs : List X) (i : ℕ) (x d : X) → slice_get xs i ≡ Some x → (i < length xs) × (get_or xs i d ≡ x)
found_in [] i x d is = let never : ⊥ = cc in absurd never
found_in (y ∷ ys) zero x d is = (omega arith, same_Some y x is)
found_in (y ∷ ys) (suc i) x d is = let rest = found_in ys i x d is in (omega (arith, rest.0), rest.1)

get_reversed : {X : Type 0} (xs : List X) (i : ℕ) (x : X) → slice_get xs i ≡ Some x → slice_get (reverse xs) (from_end (length xs) i) ≡ Some x
get_reversed xs i x is =
    let found = found_in xs i x x is in
    let inside : from_end (length xs) i < length xs = omega (arith, found.0) in
    let back : length xs - 1 - from_end (length xs) i ≡ i = omega (arith, found.0) in
    slice_get-get_or (reverse xs) (from_end (length xs) i) x (omega (arith, inside, length-reverse xs))
    ∙ ap Some (get_or-reverse xs (from_end (length xs) i) x inside ∙ ap (λ k. get_or xs k x) back ∙ found.1)

-- ---- as version 3 sees them

abbrev see : ℕ × Record → ℕ × Record
see e = (e.0, seen e.1)

untag_seen : (xs : List (ℕ × Record)) → untag (map see xs) ≡ map seen (untag xs)
untag_seen [] = refl
untag_seen (x ∷ xs) = ap (λ l. seen x.1 ∷ l) (untag_seen xs)

numbered_seen : (n : ℕ) (rs : List Record) → map see (numbered n rs) ≡ numbered n (map seen rs)
numbered_seen n [] = refl
numbered_seen n (r ∷ rs) = ap (λ l. (n, seen r) ∷ l) (numbered_seen (suc n) rs)

of_seen : (t : List ℕ) (xs : List (ℕ × Record)) → of_tagged tool_of t (map see xs) ≡ map see (of_tagged tool_of t xs)
of_seen t [] = refl
of_seen t (x ∷ xs) =
    elim (bytes_eq x.1.tool t) as
    (λ b. cond b (see x ∷ of_tagged tool_of t (map see xs)) (of_tagged tool_of t (map see xs))
    ≡ map see (cond b (x ∷ of_tagged tool_of t xs) (of_tagged tool_of t xs)))
    [ true ↦ ap (λ l. see x ∷ l) (of_seen t xs) | false ↦ of_seen t xs ]

others_seen : (n : ℕ) (xs : List (ℕ × Record)) → AllByRecursion (λ y. n ≡ y.0 → ⊥) xs → AllByRecursion (λ y. n ≡ y.0 → ⊥) (map see xs)
others_seen n [] all = tt
others_seen n (x ∷ xs) all = (all.0, others_seen n xs all.1)

apart_seen : (xs : List (ℕ × Record)) → AreApart xs → AreApart (map see xs)
apart_seen [] apart = tt
apart_seen (x ∷ xs) apart = (others_seen x.0 xs apart.0, apart_seen xs apart.1)

seen_of : (o : Option (ℕ × Record)) (k : ℕ) (r : Record) → option_map see o ≡ Some (k, r) → (e : ℕ × Record) × (o ≡ Some e) × (e.0 ≡ k)
seen_of None k r is = let never : ⊥ = cc in absurd never
seen_of (Some e) k r is = (e, refl, ap (λ (p : ℕ × Record). p.0) (same_Some (see e) (k, r) is))

no_such : {X : Type 0} (xs : List X) (n : ℕ) → n < length xs → (x : X) × (slice_get xs n ≡ Some x)
no_such [] n lt = absurd (omega (arith, lt))
no_such (x ∷ xs) zero lt = (x, refl)
no_such (x ∷ xs) (suc n) lt = no_such xs n (omega (arith, lt))

-- ---- the law

module _ (cs more bs : List Record) (same_tools : (t : List ℕ) → of_tool tool_of t bs ≡ of_tool tool_of t (more ++ cs)) where
  abbrev all : List Record
  all = reverse cs ++ reverse more

  fits : Fits tool_of (reverse bs) (numbered 0 all)
  fits t =
      filter_reverse (λ (r : Record). bytes_eq r.tool t) bs ∙ ap reverse (same_tools t)
      ∙ sym (filter_reverse (λ (r : Record). bytes_eq r.tool t) (more ++ cs)) ∙ ap (of_tool tool_of t) (reverse-append more cs)
      ∙ sym (of_numbered t 0 all)

  abbrev tags : List (ℕ × Record)
  tags = arranged tool_of (reverse bs) (numbered 0 all)

  abbrev marked : List (ℕ × Record)
  marked = map see tags

  are : untag tags ≡ reverse bs
  are = untagged tool_of (reverse bs) (numbered 0 all) fits

  many : length tags ≡ length bs
  many = sym (length-map tags (λ (e : ℕ × Record). e.1)) ∙ ap length are ∙ length-reverse bs

  same : (t : List ℕ) → of_tagged tool_of t tags ≡ of_tagged tool_of t (numbered 0 all)
  same t = same_of_tool tool_of t (reverse bs) (numbered 0 all) fits

  at_own : AllByRecursion (λ (e : ℕ × Record). slice_get all e.0 ≡ Some e.1) tags
  at_own = all_arranged tool_of (λ (e : ℕ × Record). slice_get all e.0 ≡ Some e.1) (reverse bs) (numbered 0 all)
      (at_numbered all 0 all (λ m y is. let zero_more : 0 + m ≡ m = omega arith in ap (slice_get all) zero_more ∙ is))

  apart : AreApart marked
  apart = apart_seen tags (apart_arranged tool_of (reverse bs) (numbered 0 all) (apart_numbered 0 all))

  seen_all : map seen all ≡ seen_from_end cs ++ seen_from_end more
  seen_all = map-append seen (reverse cs) (reverse more) ∙ ap₂ (λ xs ys. xs ++ ys) (map_reverse seen cs) (map_reverse seen more)

  same_seen : (t : List ℕ) → of_tagged tool_of t marked ≡ of_tagged tool_of t (numbered 0 (seen_from_end cs ++ seen_from_end more))
  same_seen t =
      of_seen t tags ∙ ap (map see) (same t) ∙ sym (of_seen t (numbered 0 all))
      ∙ ap (of_tagged tool_of t) (numbered_seen 0 all ∙ ap (numbered 0) seen_all)

  seen_are : untag marked ≡ seen_from_end bs
  seen_are = untag_seen tags ∙ ap (map seen) are ∙ map_reverse seen bs

  abbrev tiers : List Tier
  tiers = finer_tiers (falling_names (map seen cs) (map seen bs))

  abbrev found : List (Option ℕ)
  found = partners_after (seen_from_end cs) (untag marked) tiers

  -- the matches, counted from the other end
  are_turned : partners_in Three cs bs ≡ turned (length bs) found
  are_turned = ap (λ l. turned (length bs) (partners_after (seen_from_end cs) l tiers)) (sym seen_are)

  none_yet : IsOwn marked (replicate (length (seen_from_end cs)) None)
  none_yet = record { at = λ i j is. absurd (nobody (length (seen_from_end cs)) i j is) }

  own : IsOwn marked found
  own = all_own marked (seen_from_end cs) (seen_from_end more) apart same_seen tiers (replicate (length (seen_from_end cs)) None)
      (length-replicate (length (seen_from_end cs)) None) none_yet

  long : length found ≡ length cs
  long = all_long marked (seen_from_end cs) (seen_from_end more) apart same_seen tiers (replicate (length (seen_from_end cs)) None)
      (length-replicate (length (seen_from_end cs)) None)
      ∙ length-seen cs

  below : AreBelow (length bs) found
  below = subst (λ n. AreBelow n found) (ap length seen_are ∙ length-seen bs) (partners_below (seen_from_end cs) (untag marked) tiers)

  has : (i : ℕ) (r : Record) → slice_get (seen_from_end cs) i ≡ Some r → has_partner found i ≡ true
  has i r is =
      let t = has_finer_tier (falling_names (map seen cs) (map seen bs)) r in
      all_have marked (seen_from_end cs) (seen_from_end more) apart same_seen tiers (replicate (length (seen_from_end cs)) None) i r t.tier t.key t.among
      (length-replicate (length (seen_from_end cs)) None) none_yet is t.is

  own_at : (i : ℕ) (r : Record) → slice_get cs i ≡ Some r
      → slice_get (seen_from_end cs) (from_end (length cs) i) ≡ Some (seen r)
  own_at i r is =
      ap (λ n. slice_get (seen_from_end cs) (from_end n i)) (sym (length-map cs seen))
      ∙ get_reversed (map seen cs) i (seen r) (slice_get-map seen cs i ∙ ap (option_map seen) is)

  -- each current result is matched with itself
  pub matched_from_end : (i : ℕ) (r : Record) → slice_get cs i ≡ Some r → partner_in bs (slice_index_or (partners_in Three cs bs) i None) ≡ Some r
  matched_from_end i r is =
      let k = from_end (length cs) i in
      let some = some_of (slice_index_or found k None) (has k (seen r) (own_at i r is)) in
      let at = own.at k some.0 some.1 in
      let tag = seen_of (slice_get tags some.0) k at.0 (sym (slice_get-map see tags some.0) ∙ at.1) in
      let here : slice_get all tag.0.0 ≡ Some tag.0.1 = all_get (λ (e : ℕ × Record). slice_get all e.0 ≡ Some e.1) tags some.0 tag.0 at_own tag.1 in
      let there : slice_get all k ≡ Some r = get_front (reverse cs) (reverse more) k r (get_reversed cs i r is) in
      let same_record : tag.0.1 ≡ r = same_Some tag.0.1 r (sym here ∙ ap (slice_get all) tag.2 ∙ there) in
      let turned_there : slice_get (reverse bs) some.0 ≡ Some r =
      ap (λ l. slice_get l some.0) (sym are) ∙ slice_get-map (λ (e : ℕ × Record). e.1) tags some.0
      ∙ ap (option_map (λ (e : ℕ × Record). e.1)) tag.1 ∙ ap Some same_record in
      let partner : slice_get bs (from_end (length bs) some.0) ≡ Some r =
      ap (λ l. slice_get l (from_end (length bs) some.0)) (sym (reverse-reverse bs))
      ∙ ap (λ n. slice_get (reverse (reverse bs)) (from_end n some.0)) (sym (length-reverse bs))
      ∙ get_reversed (reverse bs) some.0 r turned_there in
      ap (λ ps. partner_in bs (slice_index_or ps i None)) are_turned
      ∙ ap (partner_in bs)
      (partner_turned (length bs) i found (omega (arith, long, (found_in cs i r r is).0))
      ∙ ap (λ n. option_map (from_end (length bs)) (slice_index_or found (from_end n i) None)) long
      ∙ ap (option_map (from_end (length bs))) some.1)
      ∙ partner

  pub unchanged_from_end : AllByRecursion (λ s. s ≡ Unchanged) (states_of Three cs bs)
  unchanged_from_end =
      all_unchanged Three bs (partners_in Three cs bs) 0 cs
      (λ m r is. let zero_more : 0 + m ≡ m =
      omega arith in ap (λ k. partner_in bs (slice_index_or (partners_in Three cs bs) k None)) zero_more ∙ matched_from_end m r is)

  has_just : (i : ℕ) → has_partner found i ≡ nat_lt i (length cs)
  has_just i = ⊎_elim within past (cases_lt i (length cs))
    where
      within : i < length cs → has_partner found i ≡ nat_lt i (length cs)
      within lt =
          let r = no_such (seen_from_end cs) i (omega (arith, lt, length-seen cs)) in
          has i r.0 r.1 ∙ sym (lt-ltb i (length cs) lt)

      past : length cs ≤ i → has_partner found i ≡ nat_lt i (length cs)
      past le = ap is_some (get_or_past found i None (omega (arith, long, le))) ∙ sym (le-ltb i (length cs) le)

  abbrev is_other : ℕ × Record → Bool
  is_other x = not (nat_lt x.0 (length cs))

  taken_there : (j : ℕ) (x : ℕ × Record) → slice_get (reverse tags) j ≡ Some x → is_taken (turned (length bs) found) j ≡ nat_lt x.0 (length cs)
  taken_there j x is =
      let count : length (reverse tags) ≡ length bs = length-reverse tags ∙ many in
      let inside : j < length bs = omega (arith, count, (found_in (reverse tags) j x x is).0) in
      let at : slice_get tags (from_end (length bs) j) ≡ Some x =
      ap (λ l. slice_get l (from_end (length bs) j)) (sym (reverse-reverse tags))
      ∙ ap (λ n. slice_get (reverse (reverse tags)) (from_end n j)) (sym count)
      ∙ get_reversed (reverse tags) j x is in
      taken_within (length bs) j found inside below
      ∙ taken_is marked found (from_end (length bs) j) (see x) apart own (slice_get-map see tags (from_end (length bs) j) ∙ ap (option_map see) at)
      ∙ has_just x.0

  back : untag (reverse tags) ≡ bs
  back = map_reverse (λ (e : ℕ × Record). e.1) tags ∙ ap reverse are ∙ reverse-reverse bs

  -- exactly the others stay unmatched, the results of each tool in order
  pub unmatched_from_end : (t : List ℕ) → of_tool tool_of t (unmatched_of bs (taken_of Three cs bs)) ≡ of_tool tool_of t more
  unmatched_from_end t =
      let of_t : ℕ × Record → Bool = λ x. bytes_eq x.1.tool t in
      let by : Record → Bool = λ r. bytes_eq r.tool t in
      let taken = is_taken (turned (length bs) found) in
      let count : 0 + length (reverse cs) ≡ length cs = omega (arith, length-reverse cs) in
      ap (λ ps. of_tool tool_of t (unmatched_of bs (map (is_taken ps) (range_with_len 0 (length bs))))) are_turned
      ∙ ap (λ l. of_tool tool_of t (unmatched_of l (map taken (range_with_len 0 (length l))))) (sym back)
      ∙ ap (of_tool tool_of t)
      (unmatched_are (turned (length bs) found) (λ x. nat_lt x.0 (length cs)) 0 (reverse tags)
      (λ m x is. let zero_more : 0 + m ≡ m = omega arith in ap taken zero_more ∙ taken_there m x is))
      ∙ untag_of t (filter is_other (reverse tags))
      ∙ ap untag
      (filter_swap of_t is_other (reverse tags)
      ∙ ap (filter is_other) (filter_reverse of_t tags ∙ ap reverse (same t) ∙ sym (filter_reverse of_t (numbered 0 all)))
      ∙ sym (filter_swap of_t is_other (reverse (numbered 0 all)))
      ∙ ap (filter of_t)
      (filter_reverse is_other (numbered 0 all) ∙ ap reverse (from_number (length cs) 0 (reverse cs) (reverse more) count))
      ∙ filter_reverse of_t (numbered (length cs) (reverse more)))
      ∙ map_reverse (λ (e : ℕ × Record). e.1) (of_tagged tool_of t (numbered (length cs) (reverse more)))
      ∙ ap reverse (of_numbered t (length cs) (reverse more) ∙ filter_reverse by more)
      ∙ reverse-reverse (of_tool tool_of t more)
