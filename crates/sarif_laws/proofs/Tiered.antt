-- Each current result has a key at one of the tiers.
use Rattle.std.proofs.Common.{◌≡◌, ℕ, zero, suc, true, false, cond, not, bytes_eq, ◌||◌, ◌&&◌, List, [], ◌∷◌, ◌++◌, Option, Some, None, option_map, length, map, reverse, slice_get, is_some, refl, sym, ap, subst, ◌∙◌, arith, inl, inr, ⊎_elim, ◌⊎◌, true≢false}
use mathlib.Core.Bool.{or-true}
use Rattle.std.proofs.lemmas.Bool.{ne_eqb, or_cases}
use Rattle.std.proofs.lemmas.List.{reverse-append}
use Rattle.std.proofs.lemmas.List.Folds.{list_any-append}
use Rattle.std.proofs.lemmas.Option.{same_Some}
use Rattle.std.proofs.lemmas.Slice.Eq.{bytes_eq-Decides}
use Rattle.sarif_model.specs.declared.record.Record.{Record}
use Rattle.sarif_match.specs.declared.tier.Tier.{Tier}
use Rattle.sarif_match.specs.declared.tier.Tier.TheVariants.{Guid, FingerprintHere, Fingerprint, PartialHere, PartialMoved, PlaceText, Place, PlaceLeft}
use Rattle.sarif_match.specs.Key.{group_of, key_of, value_of}
use Rattle.sarif_evidence.specs.EqualParts.{is_empty}
use Rattle.sarif_match.specs.KeyParts.{KeyParts, guid_parts, fingerprint_parts, partial_here_parts, place_left_parts, place_parts}
use Rattle.sarif_match.specs.Tiers.{falling_names, finer_tiers, has_name, names_of, rising_names, tiers_of}
use Rattle.sarif_match.proofs.SortedLemmas.{has_names}
use Rattle.sarif_laws.proofs.Arranged.{itself}

-- ---- a member of a list

abbrev pub IsIn : {X : Type 0} → X → List X → Type 0
IsIn x [] = ⊥
IsIn x (y ∷ ys) = (x ≡ y) ⊎ IsIn x ys

module _ {X : Type 0} (x : X) where
  in_front : (xs ys : List X) → IsIn x xs → IsIn x (xs ++ ys)
  in_front [] ys among = absurd among
  in_front (y ∷ xs) ys (inl here) = inl here
  in_front (y ∷ xs) ys (inr later) = inr (in_front xs ys later)

  pub in_back : (xs ys : List X) → IsIn x ys → IsIn x (xs ++ ys)
  in_back [] ys among = among
  in_back (y ∷ xs) ys among = inr (in_back xs ys among)

  in_reverse : (xs : List X) → IsIn x xs → IsIn x (reverse xs)
  in_reverse [] among = absurd among
  in_reverse (y ∷ xs) (inl here) = subst (IsIn x) (sym (reverse-append (y ∷ []) xs)) (in_back (reverse xs) (y ∷ []) (inl here))
  in_reverse (y ∷ xs) (inr later) = subst (IsIn x) (sym (reverse-append (y ∷ []) xs)) (in_front (reverse xs) (y ∷ []) (in_reverse xs later))

in_map : {X : Type 0} {Y : Type 0} (f : X → Y) (x : X) (xs : List X) → IsIn x xs → IsIn (f x) (map f xs)
in_map f x [] among = absurd among
in_map f x (y ∷ xs) (inl here) = inl (ap f here)
in_map f x (y ∷ xs) (inr later) = inr (in_map f x xs later)

in_names : (name : List ℕ) (names : List (List ℕ)) → has_name name names ≡ true → IsIn name names
in_names name [] has = absurd (true≢false (sym has))
in_names name (own ∷ names) has =
    ⊎_elim (λ here. inl (sym ((bytes_eq-Decides own name).0 here))) (λ later. inr (in_names name names later))
    (or_cases (bytes_eq own name) (has_name name names) has)

-- ---- the tier of a result

pub not_empty : (p : List ℕ × List ℕ) (ps : List (List ℕ × List ℕ)) → is_empty (p ∷ ps) ≡ false
not_empty p ps = ne_eqb (length (p ∷ ps)) 0 (λ same. omega (arith, same))

module _ (cs bs : List Record) (r : Record) where
  pub record HasTier : Type 0 where
    pub tier : Tier
    pub key : KeyParts
    pub among : IsIn tier (tiers_of cs bs)
    pub is : key_of r tier ≡ Some key

  own_name : (p : List ℕ × List ℕ) (ps : List (List ℕ × List ℕ)) (rs : List Record) (i : ℕ) → slice_get rs i ≡ Some r → r.full ≡ p ∷ ps
      → has_name p.0 (names_of rs) ≡ true
  own_name p ps [] i found full = let never : ⊥ = cc in absurd never
  own_name p ps (x ∷ rs) zero found full =
      let names = map (λ (pair : List ℕ × List ℕ). pair.0) ps in
      let here : map (λ (pair : List ℕ × List ℕ). pair.0) x.full ≡ p.0 ∷ names =
      ap (λ (y : Record). map (λ (pair : List ℕ × List ℕ). pair.0) y.full) (same_Some x r found)
      ∙ ap (map (λ (pair : List ℕ × List ℕ). pair.0)) full in
      ap (λ l. has_name p.0 (l ++ names_of rs)) here ∙ ap (λ b. b || has_name p.0 (names ++ names_of rs)) (itself p.0)
  own_name p ps (x ∷ rs) (suc i) found full =
      let own = map (λ (pair : List ℕ × List ℕ). pair.0) x.full in
      list_any-append (λ own. bytes_eq own p.0) own (names_of rs) ∙ ap (λ b. has_name p.0 own || b) (own_name p ps rs i found full) ∙ or-true (has_name p.0 own)

  by_fingerprint : (p : List ℕ × List ℕ) (ps : List (List ℕ × List ℕ)) (i : ℕ) → slice_get cs i ≡ Some r → r.full ≡ p ∷ ps → HasTier
  by_fingerprint p ps i found full =
      let has : has_name p.0 (rising_names cs bs) ≡ true = has_names p.0 cs bs ∙ ap (λ b. b || has_name p.0 (names_of bs)) (own_name p ps cs i found full) in
      let among = in_reverse p.0 (rising_names cs bs) (in_names p.0 (rising_names cs bs) has) in
      record {
        tier = Fingerprint p.0;
        key = fingerprint_parts r.tool p.0 p.1;
        among = inr
            (in_front (Fingerprint p.0) (map Fingerprint (falling_names cs bs)) (PartialHere ∷ (PartialMoved ∷ (Place ∷ [])))
            (in_map Fingerprint p.0 (falling_names cs bs) among));
        is = ap (λ l. option_map (λ value. fingerprint_parts r.tool p.0 value) (value_of p.0 l)) full
            ∙ ap (λ b. option_map (λ value. fingerprint_parts r.tool p.0 value) (cond b (Some p.1) (value_of p.0 ps))) (itself p.0);
      }

  last_tiers : (tier : Tier) → IsIn tier (PartialHere ∷ (PartialMoved ∷ (Place ∷ []))) → IsIn tier (tiers_of cs bs)
  last_tiers tier among = inr (in_back tier (map Fingerprint (falling_names cs bs)) (PartialHere ∷ (PartialMoved ∷ (Place ∷ []))) among)

  by_partial : (ps : List (List ℕ × List ℕ)) → r.partial ≡ ps → r.full ≡ [] → r.guid ≡ None → HasTier
  by_partial (p ∷ ps) partial full guid = record {
    tier = PartialHere;
    key = partial_here_parts r.tool r.rule_id r.place r.partial;
    among = last_tiers PartialHere (inl refl);
    is = ap (λ b. cond b None (Some (partial_here_parts r.tool r.rule_id r.place r.partial))) (ap is_empty partial ∙ not_empty p ps);
  }
  by_partial [] partial full guid = record {
    tier = Place;
    key = place_parts r.tool r.rule_id r.place r.message;
    among = last_tiers Place (inr (inr (inl refl)));
    is = ap (λ b. cond b (Some (place_parts r.tool r.rule_id r.place r.message)) None)
        (ap (λ o. not (is_some o) && (is_empty r.full && is_empty r.partial)) guid ∙ ap (λ l. is_empty l && is_empty r.partial) full ∙ ap is_empty partial);
  }

  by_full : (ps : List (List ℕ × List ℕ)) (i : ℕ) → slice_get cs i ≡ Some r → r.full ≡ ps → r.guid ≡ None → HasTier
  by_full (p ∷ ps) i found full guid = by_fingerprint p ps i found full
  by_full [] i found full guid = by_partial r.partial refl full guid

  by_guid : (o : Option ℕ) (i : ℕ) → slice_get cs i ≡ Some r → r.guid ≡ o → HasTier
  by_guid (Some guid) i found is = record {
    tier = Guid;
    key = guid_parts r.tool guid;
    among = inl refl;
    is = ap (option_map (λ g. guid_parts r.tool g)) is;
  }
  by_guid None i found is = by_full r.full i found refl is

  pub has_tier : (i : ℕ) → slice_get cs i ≡ Some r → HasTier
  has_tier i found = by_guid r.guid i found refl

-- in version 3 too
module _ (names : List (List ℕ)) (r : Record) where
  pub record HasFinerTier : Type 0 where
    pub tier : Tier
    pub key : KeyParts
    pub among : IsIn tier (finer_tiers names)
    pub is : key_of r tier ≡ Some key

  pub has_finer_tier : HasFinerTier
  has_finer_tier = by_guid r.guid refl
    where
      by_guid : (o : Option ℕ) → r.guid ≡ o → HasFinerTier
      by_guid (Some guid) is = record {
        tier = Guid;
        key = guid_parts r.tool guid;
        among = inl refl;
        is = ap (option_map (λ g. guid_parts r.tool g)) is;
      }
      by_guid None is =
          let rest : List Tier = PartialMoved ∷ (PlaceText ∷ (Place ∷ (PlaceLeft ∷ []))) in
          let moved : List Tier = map Fingerprint names ++ rest in record {
            tier = PlaceLeft;
            key = place_left_parts (group_of r);
            among = inr (inr (inr (in_back PlaceLeft (map FingerprintHere names) (PartialHere ∷ moved)
                (inr (in_back PlaceLeft (map Fingerprint names) rest (inr (inr (inr (inl refl)))))))));
            is = ap (λ o. cond (is_some o) None (Some (place_left_parts (group_of r)))) is;
          }
