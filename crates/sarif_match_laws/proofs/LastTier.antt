-- Two results that match at the last tier of version 3 lack evidence.
use Rattle.std.proofs.Common.{◌≡◌, ℕ, zero, suc, Bool, true, false, cond, ◌&&◌, ◌⊎◌, inl, inr, ⊎_elim, List, [], ◌∷◌, ◌++◌, Option, Some, None, bytes_eq, is_some, length, map, option_map, slice_get, slice_index_or, refl, sym, ap, ap₂, ◌∙◌, subst}
use Rattle.std.specs.List.{list_any}
use Rattle.std.specs.Prelude.{option_and_then}
use Rattle.std.proofs.lemmas.Bool.{false≢true, or_cases, or_left, or_right, true≢false}
use Rattle.std.proofs.lemmas.List.Folds.{list_any-append}
use Rattle.std.proofs.lemmas.Map.Made.{is_some-lookup}
use Rattle.std.proofs.lemmas.Option.{same_Some, slice_get-map}
use Rattle.sarif_model.specs.declared.kinds.State.TheVariants.{Unchanged, Updated}
use Rattle.sarif_model.specs.declared.record.Record.{Record}
use Rattle.sarif_match.specs.declared.tier.Tier.{Tier}
use Rattle.sarif_match.specs.declared.tier.Tier.TheVariants.{Guid, Same, SameText, FingerprintHere, Fingerprint, PartialHere, PartialMoved, PlaceText, Place, PlaceLeft}
use Rattle.sarif_evidence.specs.declared.version.MatchingVersion.TheVariants.{Three}
use Rattle.sarif_evidence.specs.Evidence.{has_evidence, state_in}
use Rattle.sarif_match.specs.Key.{group_of, key_of, value_of}
use Rattle.sarif_match.specs.KeyParts.{Group, KeyParts, fingerprint_parts, place_text_parts}
use Rattle.sarif_match.specs.Partners.{from_end, is_taken, partners_after, partners_in, seen_from_end}
use Rattle.sarif_evidence.specs.Seen.{seen}
use Rattle.sarif_evidence.specs.State.{is_unchanged}
use Rattle.sarif_match.specs.Tiers.{falling_names, has_name, names_of, rising_names}
use Rattle.sarif_match_laws.specs.Hidden.{HasEachNameOnce, HaveSameSnippet, is_of_two}
use Rattle.sarif_match_laws.specs.SameFinding.{AreMatchedAt, HaveUnlikeSnippets}
use Rattle.sarif_match_laws.proofs.AsMany.{group_place_left}
use Rattle.sarif_match_laws.proofs.BlindSpot.{keys_at}
use Rattle.sarif_match_laws.proofs.EvidenceLemmas.{unchanged_has_snippet}
use Rattle.sarif_match_laws.proofs.HiddenLemmas.{nothing_hidden}
use Rattle.sarif_match_laws.proofs.NoneLeft.{no_common_key}
use Rattle.sarif_match_laws.proofs.PairEvidence.{mapped}
use Rattle.sarif_match.proofs.SortedLemmas.{has_names}
use Rattle.sarif_match.proofs.SplitLemmas.{none_is_no_some}
use Rattle.sarif_evidence.proofs.EqualLemmas.{same_text}
use Rattle.sarif_match_laws.proofs.VersionLaws.{but_last, last_is_group, seen_at}
use Rattle.sarif_match_laws.proofs.AnyOrder.{any_reverse}

-- ---- tiers in a list

abbrev IsIn : Tier → List Tier → Type 0
IsIn t [] = ⊥
IsIn t (x ∷ xs) = (x ≡ t) ⊎ IsIn t xs

in_front : (t : Tier) (xs ys : List Tier) → IsIn t xs → IsIn t (xs ++ ys)
in_front t [] ys is = absurd is
in_front t (x ∷ xs) ys is = ⊎_elim (λ here. inl here) (λ later. inr (in_front t xs ys later)) is

in_back : (t : Tier) (xs ys : List Tier) → IsIn t ys → IsIn t (xs ++ ys)
in_back t [] ys is = is
in_back t (x ∷ xs) ys is = inr (in_back t xs ys is)

record IsSplitAt (t : Tier) (xs : List Tier) : Type 0 where
  before : List Tier
  after : List Tier
  split : xs ≡ before ++ (t ∷ after)

split_at : (t : Tier) (xs : List Tier) → IsIn t xs → IsSplitAt t xs
split_at t [] is = absurd is
split_at t (x ∷ xs) is =
    ⊎_elim (λ here. record { before = []; after = xs; split = ap (λ (y : Tier). y ∷ xs) here })
    (λ later. further (split_at t xs later)) is
  where
    further : IsSplitAt t xs → IsSplitAt t (x ∷ xs)
    further s = record { before = x ∷ s.before; after = s.after; split = ap (λ (ys : List Tier). x ∷ ys) s.split }

named_in : (name : List ℕ) (ns : List (List ℕ)) → list_any (λ own. bytes_eq own name) ns ≡ true → IsIn (Fingerprint name) (map Fingerprint ns)
named_in name [] is = absurd (false≢true is)
named_in name (n ∷ ns) is =
    ⊎_elim (λ same. inl (ap Fingerprint (same_text n name same))) (λ later. inr (named_in name ns later))
    (or_cases (bytes_eq n name) (list_any (λ own. bytes_eq own name) ns) is)

-- ---- what comes before the last tier

abbrev is_last : Tier → Bool
is_last PlaceLeft = true
is_last _ = false

abbrev IsEarlier : Tier → Type 0
IsEarlier t = is_last t ≡ false

abbrev AreEarlier : List Tier → Type 0
AreEarlier [] = Unit {0}
AreEarlier (t ∷ ts) = IsEarlier t × AreEarlier ts

earlier_both : (xs ys : List Tier) → AreEarlier xs → AreEarlier ys → AreEarlier (xs ++ ys)
earlier_both [] ys here there = there
earlier_both (x ∷ xs) ys here there = (here.0, earlier_both xs ys here.1 there)

earlier_here : (ns : List (List ℕ)) → AreEarlier (map FingerprintHere ns)
earlier_here [] = tt
earlier_here (n ∷ ns) = (refl, earlier_here ns)

earlier_moved : (ns : List (List ℕ)) → AreEarlier (map Fingerprint ns)
earlier_moved [] = tt
earlier_moved (n ∷ ns) = (refl, earlier_moved ns)

first_of : (x y : Tier) (xs ys : List Tier) → x ∷ xs ≡ y ∷ ys → x ≡ y
first_of x y xs ys is = cc

rest_of : (x y : Tier) (xs ys : List Tier) → x ∷ xs ≡ y ∷ ys → xs ≡ ys
rest_of x y xs ys is = cc

nothing_more : (xs : List Tier) (t : Tier) (ys : List Tier) → xs ++ (t ∷ ys) ≡ [] → ⊥
nothing_more [] t ys is = cc
nothing_more (x ∷ xs) t ys is = cc

-- the last tier is there once
before_last : (xs before after : List Tier) → AreEarlier xs → xs ++ (PlaceLeft ∷ []) ≡ before ++ (PlaceLeft ∷ after) → before ≡ xs
before_last [] [] after earlier is = refl
before_last [] (b ∷ before) after earlier is =
    absurd (nothing_more before PlaceLeft after (sym (rest_of PlaceLeft b [] (before ++ (PlaceLeft ∷ after)) is)))
before_last (x ∷ xs) [] after earlier is = absurd (true≢false (sym (ap is_last (first_of x PlaceLeft (xs ++ (PlaceLeft ∷ [])) after is)) ∙ earlier.0))
before_last (x ∷ xs) (b ∷ before) after earlier is =
    ap₂ (λ t ts. t ∷ ts) (sym (first_of x b (xs ++ (PlaceLeft ∷ [])) (before ++ (PlaceLeft ∷ after)) is))
    (before_last xs before after earlier.1 (rest_of x b (xs ++ (PlaceLeft ∷ [])) (before ++ (PlaceLeft ∷ after)) is))

-- ---- the law

names_of_member : (r : Record) (name value : List ℕ) → value_of name r.full ≡ Some value
    → list_any (λ own. bytes_eq own name) (map (λ pair. pair.0) r.full) ≡ true
names_of_member r name value is = sym (is_some-lookup (λ own. bytes_eq own name) r.full) ∙ ap is_some is

in_names_by : (rs : List Record) (i : ℕ) (r : Record) (name : List ℕ) → slice_get rs i ≡ Some r
    → list_any (λ own. bytes_eq own name) (map (λ pair. pair.0) r.full) ≡ true → has_name name (names_of rs) ≡ true
in_names_by [] i r name here is = absurd (none_is_no_some r here)
in_names_by (x ∷ rs) zero r name here is =
    list_any-append (λ own. bytes_eq own name) (map (λ pair. pair.0) x.full) (names_of rs)
    ∙ or_left (list_any (λ own. bytes_eq own name) (map (λ pair. pair.0) x.full)) (has_name name (names_of rs))
    (ap (λ (y : Record). list_any (λ own. bytes_eq own name) (map (λ pair. pair.0) y.full)) (same_Some x r here) ∙ is)
in_names_by (x ∷ rs) (suc i) r name here is =
    list_any-append (λ own. bytes_eq own name) (map (λ pair. pair.0) x.full) (names_of rs)
    ∙ or_right (list_any (λ own. bytes_eq own name) (map (λ pair. pair.0) x.full)) (has_name name (names_of rs)) (in_names_by rs i r name here is)

updated_by : (b : Bool) → (cond b Unchanged Updated ≡ Unchanged → ⊥) → cond b Unchanged Updated ≡ Updated
updated_by true never = absurd (never refl)
updated_by false never = refl

pub updated_unless : (r b : Record) → (state_in Three r (Some b) ≡ Unchanged → ⊥) → state_in Three r (Some b) ≡ Updated
updated_unless r b never = updated_by (is_unchanged r b && has_evidence (seen r) (seen b)) never

pub unlike_updated : (r b : Record) → HaveUnlikeSnippets r b → state_in Three r (Some b) ≡ Updated
unlike_updated r b unlike =
    updated_unless r b (λ is. unlike.unlike (unchanged_has_snippet r b unlike.snippet unlike.other is unlike.current_is unlike.partner_is))

module _ (current baseline : List Record) (i j : ℕ) (r b : Record) (mine : slice_get current i ≡ Some r) (theirs : slice_get baseline j ≡ Some b)
    (at : AreMatchedAt current baseline PlaceLeft i j) where
  abbrev cs : List Record
  cs = seen_from_end current

  abbrev bs : List Record
  bs = seen_from_end baseline

  abbrev names : List (List ℕ)
  names = falling_names (map seen current) (map seen baseline)

  first_tiers : at.before ≡ but_last current baseline names
  first_tiers =
      before_last (but_last current baseline names) at.before at.after earlier (sym (last_is_group current baseline names) ∙ at.in_order)
    where
      earlier : AreEarlier (but_last current baseline names)
      earlier = (
        refl,
        (
          refl,
          (
            refl,
            earlier_both (map FingerprintHere names) (PartialHere ∷ (map Fingerprint names ++ (PartialMoved ∷ (PlaceText ∷ (Place ∷ [])))))
                (earlier_here names)
                (refl, earlier_both (map Fingerprint names) (PartialMoved ∷ (PlaceText ∷ (Place ∷ []))) (earlier_moved names) (refl, (refl, (refl, tt)))),
          ),
        ),
      )

  -- the two have no key in common at an earlier tier
  no_key : (t : Tier) (key : KeyParts) → IsIn t (but_last current baseline names) → key_of (seen r) t ≡ Some key → key_of (seen b) t ≡ Some key → ⊥
  no_key t key is own other =
      let s = split_at t at.before (subst (IsIn t) (sym first_tiers) is) in
      no_common_key cs bs s.before s.after t (from_end (length current) i) (from_end (length baseline) j) key
      (ap (λ (ts : List Tier). slice_index_or (partners_after cs bs ts) (from_end (length current) i) None) (sym s.split)
      ∙ none_at (slice_index_or (partners_after cs bs at.before) (from_end (length current) i) None) at.paired.current_left)
      (ap (λ (ts : List Tier). is_taken (partners_after cs bs ts) (from_end (length baseline) j)) (sym s.split) ∙ at.paired.baseline_left)
      (ap (option_and_then (λ (x : Record). key_of x t)) (seen_at current i r mine) ∙ own)
      (ap (option_and_then (λ (x : Record). key_of x t)) (seen_at baseline j b theirs) ∙ other)
    where
      none_at : (o : Option ℕ) → is_some o ≡ false → o ≡ None
      none_at None is = refl
      none_at (Some m) is = absurd (true≢false is)

  after_here : (t : Tier) → IsIn t (PartialHere ∷ (map Fingerprint names ++ (PartialMoved ∷ (PlaceText ∷ (Place ∷ [])))))
      → IsIn t (but_last current baseline names)
  after_here t is =
      inr (inr (inr (in_back t (map FingerprintHere names) (PartialHere ∷ (map Fingerprint names ++ (PartialMoved ∷ (PlaceText ∷ (Place ∷ []))))) is)))

  after_moved : (t : Tier) → IsIn t (PartialMoved ∷ (PlaceText ∷ (Place ∷ []))) → IsIn t (but_last current baseline names)
  after_moved t is = after_here t (inr (in_back t (map Fingerprint names) (PartialMoved ∷ (PlaceText ∷ (Place ∷ []))) is))

  name_there : (name value : List ℕ) → value_of name (seen r).full ≡ Some value → list_any (λ own. bytes_eq own name) names ≡ true
  name_there name value is =
      any_reverse (λ own. bytes_eq own name) (rising_names (map seen current) (map seen baseline))
      (has_names name (map seen current) (map seen baseline)
      ∙ or_left (has_name name (names_of (map seen current))) (has_name name (names_of (map seen baseline)))
      (in_names_by (map seen current) i (seen r) name (slice_get-map seen current i ∙ ap (option_map seen) mine)
      (names_of_member (seen r) name value is)))

  not_in_two : (t : Tier) (key : KeyParts) → is_of_two t ≡ true → key_of (seen r) t ≡ Some key → key_of (seen b) t ≡ Some key → ⊥
  not_in_two Guid key two own other = no_key Guid key (inl refl) own other
  not_in_two (Fingerprint name) key two own other =
      let m = mapped (λ (value : List ℕ). fingerprint_parts r.tool name value) (value_of name (seen r).full) key own in
      no_key (Fingerprint name) key
      (after_here (Fingerprint name)
      (inr (in_front (Fingerprint name) (map Fingerprint names) (PartialMoved ∷ (PlaceText ∷ (Place ∷ [])))
      (named_in name names (name_there name m.0 m.1)))))
      own other
  not_in_two PartialHere key two own other = no_key PartialHere key (after_here PartialHere (inl refl)) own other
  not_in_two PartialMoved key two own other = no_key PartialMoved key (after_moved PartialMoved (inl refl)) own other
  not_in_two Place key two own other = no_key Place key (after_moved Place (inr (inr (inl refl)))) own other
  not_in_two Same key two own other = false≢true two
  not_in_two SameText key two own other = false≢true two
  not_in_two (FingerprintHere name) key two own other = false≢true two
  not_in_two PlaceText key two own other = false≢true two
  not_in_two PlaceLeft key two own other = false≢true two

  not_one_snippet : HaveSameSnippet (seen r) (seen b) → ⊥
  not_one_snippet same =
      let k = keys_at current baseline PlaceLeft i j r b mine theirs at in
      let p = group_place_left (seen r) k.0 k.1 in
      let q = group_place_left (seen b) k.0 k.2 in
      let one : group_of (seen b) ≡ group_of (seen r) = sym (q.1 (group_of r)) ∙ p.1 (group_of r) in
      no_key PlaceText (place_text_parts (group_of r) same.snippet) (after_moved PlaceText (inr (inl refl)))
      (text_key (seen r) p.0 same.snippet same.current_is)
      (text_key (seen b) q.0 same.snippet same.partner_is ∙ ap (λ (g : Group). Some (place_text_parts g same.snippet)) one)
    where
      text_key : (x : Record) → x.guid ≡ None → (snippet : List ℕ) → x.snippet ≡ Some snippet
          → key_of x PlaceText ≡ Some (place_text_parts (group_of x) snippet)
      text_key x guid snippet is =
          ap (λ (g : Option ℕ). cond (is_some g) None (option_map (λ (snippet : List ℕ). place_text_parts (group_of x) snippet) x.snippet)) guid
          ∙ ap (λ (o : Option (List ℕ)). option_map (λ (snippet : List ℕ). place_text_parts (group_of x) snippet) o) is

  pub last_updated : HasEachNameOnce r.full → HasEachNameOnce b.full → slice_index_or (partners_in Three current baseline) i None ≡ Some j
      → state_in Three r (Some b) ≡ Updated
  last_updated once also partner =
      updated_unless r b
      (λ is. ⊎_elim not_one_snippet (λ two. not_in_two two.tier two.key two.of_two two.current_key two.partner_key)
      (nothing_hidden current baseline i j r b mine theirs once also partner is))
