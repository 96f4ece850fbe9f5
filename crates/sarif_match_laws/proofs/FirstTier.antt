-- The first tier of version 3 at which a result without GUID and partial fingerprints has a key.
use Rattle.std.proofs.Common.{◌≡◌, ℕ, Bool, true, false, cond, not, ◌&&◌, ⊎_elim, List, [], ◌∷◌, ◌++◌, Option, Some, None, bytes_eq, is_some, map, option_map, refl, sym, ap, ◌∙◌, subst}
use Rattle.std.specs.List.{list_any}
use Rattle.std.proofs.lemmas.Bool.{false≢true, or_cases, or_parts}
use Rattle.std.proofs.lemmas.Option.{same_Some}
use Rattle.sarif_model.specs.declared.record.Record.{Record}
use Rattle.sarif_model.specs.declared.region.Region.{Region}
use Rattle.sarif_match.specs.declared.tier.Tier.{Tier}
use Rattle.sarif_match.specs.declared.tier.Tier.TheVariants.{Guid, Same, SameText, FingerprintHere, Fingerprint, PartialHere, PartialMoved, PlaceText, Place, PlaceLeft}
use Rattle.sarif_match.specs.Key.{group_of, key_of, value_of}
use Rattle.sarif_evidence.specs.EqualParts.{is_empty}
use Rattle.sarif_match.specs.KeyParts.{KeyParts, guid_parts, fingerprint_here_parts, fingerprint_parts, partial_here_parts, partial_moved_parts, place_parts, place_text_parts, region_parts, text_parts}
use Rattle.sarif_match.specs.Tiers.{finer_tiers}
use Rattle.sarif_match.proofs.SplitLemmas.{none_is_no_some}
use Rattle.sarif_evidence.proofs.EqualLemmas.{text_refl, same_text}
use Rattle.sarif_match_laws.proofs.Done.{had}

abbrev pub first_tier : List Tier → Record → Option Tier
first_tier [] r = None
first_tier (t ∷ ts) r = cond (is_some (key_of r t)) (Some t) (first_tier ts r)

skip : (r : Record) (t : Tier) (ts : List Tier) → key_of r t ≡ None → first_tier (t ∷ ts) r ≡ first_tier ts r
skip r t ts none = ap (λ (o : Option KeyParts). cond (is_some o) (Some t) (first_tier ts r)) none

stop : (r : Record) (t : Tier) (ts : List Tier) (key : KeyParts) → key_of r t ≡ Some key → first_tier (t ∷ ts) r ≡ Some t
stop r t ts key is = ap (λ (o : Option KeyParts). cond (is_some o) (Some t) (first_tier ts r)) is

-- a tier is the first if there is no key at an earlier one
pub is_first : (before : List Tier) (t : Tier) (after : List Tier) (r : Record) (key : KeyParts) → had before r ≡ false → key_of r t ≡ Some key
    → first_tier (before ++ (t ∷ after)) r ≡ Some t
is_first [] t after r key none is = stop r t after key is
is_first (x ∷ before) t after r key none is =
    let parts = or_parts (is_some (key_of r x)) (had before r) none in
    ap (λ (b : Bool). cond b (Some x) (first_tier (before ++ (t ∷ after)) r)) parts.0 ∙ is_first before t after r key parts.1 is

-- ---- fingerprints

pub first_value : (m : List ℕ × List ℕ) (ms : List (List ℕ × List ℕ)) → value_of m.0 (m ∷ ms) ≡ Some m.1
first_value m ms = ap (λ (b : Bool). cond b (Some m.1) (value_of m.0 ms)) (text_refl m.0)

module _ (r : Record) where
  here_key : (name : List ℕ) (o : Option (List ℕ)) → value_of name r.full ≡ o
      → key_of r (FingerprintHere name) ≡ option_map (λ value. fingerprint_here_parts (group_of r) name value) o
  here_key name o is = ap (λ (o : Option (List ℕ)). option_map (λ (value : List ℕ). fingerprint_here_parts (group_of r) name value) o) is

  moved_key : (name : List ℕ) (o : Option (List ℕ)) → value_of name r.full ≡ o
      → key_of r (Fingerprint name) ≡ option_map (λ value. fingerprint_parts r.tool name value) o
  moved_key name o is = ap (λ (o : Option (List ℕ)). option_map (λ (value : List ℕ). fingerprint_parts r.tool name value) o) is

  named_first : (name value : List ℕ) (ns : List (List ℕ)) (rest : List Tier) → list_any (λ own. bytes_eq own name) ns ≡ true
      → value_of name r.full ≡ Some value → (n : List ℕ) × (first_tier (map FingerprintHere ns ++ rest) r ≡ Some (FingerprintHere n))
  named_first name value [] rest is found = absurd (false≢true is)
  named_first name value (n ∷ ns) rest is found =
      by_value (value_of n r.full) refl (λ later. named_first name value ns rest later found)
    where
      by_value : (o : Option (List ℕ)) → value_of n r.full ≡ o
          → (list_any (λ own. bytes_eq own name) ns ≡ true
          → (m : List ℕ) × (first_tier (map FingerprintHere ns ++ rest) r ≡ Some (FingerprintHere m)))
          → (m : List ℕ) × (first_tier (FingerprintHere n ∷ (map FingerprintHere ns ++ rest)) r ≡ Some (FingerprintHere m))
      by_value (Some v) own more =
          (n, stop r (FingerprintHere n) (map FingerprintHere ns ++ rest) (fingerprint_here_parts (group_of r) n v) (here_key n (Some v) own))
      by_value None none more =
          let later : list_any (λ own. bytes_eq own name) ns ≡ true =
          ⊎_elim
          (λ same. absurd (none_is_no_some value (sym none ∙ ap (λ (l : List ℕ). value_of l r.full) (same_text n name same) ∙ found)))
          (λ later. later) (or_cases (bytes_eq n name) (list_any (λ own. bytes_eq own name) ns) is) in
          let found_there = more later in
          (found_there.0, skip r (FingerprintHere n) (map FingerprintHere ns ++ rest) (here_key n None none) ∙ found_there.1)

  module _ (full : r.full ≡ []) where
    no_value : (name : List ℕ) → value_of name r.full ≡ None
    no_value name = ap (value_of name) full

    none_here : (ns : List (List ℕ)) (rest : List Tier) → first_tier (map FingerprintHere ns ++ rest) r ≡ first_tier rest r
    none_here [] rest = refl
    none_here (n ∷ ns) rest = skip r (FingerprintHere n) (map FingerprintHere ns ++ rest) (here_key n None (no_value n)) ∙ none_here ns rest

    none_moved : (ns : List (List ℕ)) (rest : List Tier) → first_tier (map Fingerprint ns ++ rest) r ≡ first_tier rest r
    none_moved [] rest = refl
    none_moved (n ∷ ns) rest = skip r (Fingerprint n) (map Fingerprint ns ++ rest) (moved_key n None (no_value n)) ∙ none_moved ns rest

-- ---- all tiers

-- the tier can be the first, and then the result has no snippet if the key doesn't have it
abbrev pub Settles : Record → Tier → Type 0
Settles r Guid = ⊥
Settles r Same = Unit {0}
Settles r SameText = Unit {0}
Settles r (FingerprintHere name) = r.snippet ≡ None
Settles r PartialHere = ⊥
Settles r (Fingerprint name) = ⊥
Settles r PartialMoved = ⊥
Settles r PlaceText = ⊥
Settles r Place = r.snippet ≡ None
Settles r PlaceLeft = ⊥

module _ (names : List (List ℕ)) (r : Record) (guid : r.guid ≡ None) (partial : r.partial ≡ [])
    (named : (m : List ℕ × List ℕ) (ms : List (List ℕ × List ℕ)) → r.full ≡ m ∷ ms → list_any (λ own. bytes_eq own m.0) names ≡ true) where
  abbrev after_here : List Tier
  after_here = PartialHere ∷ (map Fingerprint names ++ (PartialMoved ∷ (PlaceText ∷ (Place ∷ (PlaceLeft ∷ [])))))

  no_guid : key_of r Guid ≡ None
  no_guid = ap (λ (o : Option ℕ). option_map (λ (g : ℕ). guid_parts r.tool g) o) guid

  same_key : (o : Option Region) → r.region ≡ o
      → key_of r Same ≡ option_map (λ region. region_parts (group_of r) r.full r.partial r.snippet region) o
  same_key o is =
      ap (λ (g : Option ℕ). cond (is_some g) None (option_map (λ (region : Region). region_parts (group_of r) r.full r.partial r.snippet region) r.region)) guid
      ∙ ap (λ (o : Option Region). option_map (λ (region : Region). region_parts (group_of r) r.full r.partial r.snippet region) o) is

  text_key : (o : Option (List ℕ)) → r.snippet ≡ o → key_of r SameText ≡ option_map (λ snippet. text_parts (group_of r) r.full r.partial snippet) o
  text_key o is =
      ap (λ (g : Option ℕ). cond (is_some g) None (option_map (λ (snippet : List ℕ). text_parts (group_of r) r.full r.partial snippet) r.snippet)) guid
      ∙ ap (λ (o : Option (List ℕ)). option_map (λ (snippet : List ℕ). text_parts (group_of r) r.full r.partial snippet) o) is

  place_text_key : r.snippet ≡ None → key_of r PlaceText ≡ None
  place_text_key is =
      ap (λ (g : Option ℕ). cond (is_some g) None (option_map (λ (snippet : List ℕ). place_text_parts (group_of r) snippet) r.snippet)) guid
      ∙ ap (λ (o : Option (List ℕ)). option_map (λ (snippet : List ℕ). place_text_parts (group_of r) snippet) o) is

  place_key : r.full ≡ [] → key_of r Place ≡ Some (place_parts r.tool r.rule_id r.place r.message)
  place_key full =
      (λ i. cond (not (is_some (guid i)) && (is_empty (full i) && is_empty (partial i))) (Some (place_parts r.tool r.rule_id r.place r.message)) None)

  partial_here_key : key_of r PartialHere ≡ None
  partial_here_key = ap (λ (ms : List (List ℕ × List ℕ)). cond (is_empty ms) None (Some (partial_here_parts r.tool r.rule_id r.place ms))) partial

  partial_moved_key : key_of r PartialMoved ≡ None
  partial_moved_key = ap (λ (ms : List (List ℕ × List ℕ)). cond (is_empty ms) None (Some (partial_moved_parts r.tool r.rule_id ms))) partial

  -- the first tier of a result with neither region nor snippet
  settled_plain : (tier : Tier) → r.snippet ≡ None → first_tier (map FingerprintHere names ++ after_here) r ≡ Some tier → Settles r tier
  settled_plain tier text found = by_full r.full refl
    where
      by_full : (full : List (List ℕ × List ℕ)) → r.full ≡ full → Settles r tier
      by_full (m ∷ ms) full =
          let own = named_first r m.0 m.1 names after_here (named m ms full) (ap (value_of m.0) full ∙ first_value m ms) in
          subst (Settles r) (same_Some (FingerprintHere own.0) tier (sym own.1 ∙ found)) text
      by_full [] full =
          let at : first_tier (map FingerprintHere names ++ after_here) r ≡ Some Place =
          none_here r full names after_here
          ∙ skip r PartialHere (map Fingerprint names ++ (PartialMoved ∷ (PlaceText ∷ (Place ∷ (PlaceLeft ∷ []))))) partial_here_key
          ∙ none_moved r full names (PartialMoved ∷ (PlaceText ∷ (Place ∷ (PlaceLeft ∷ []))))
          ∙ skip r PartialMoved (PlaceText ∷ (Place ∷ (PlaceLeft ∷ []))) partial_moved_key
          ∙ skip r PlaceText (Place ∷ (PlaceLeft ∷ [])) (place_text_key text)
          ∙ stop r Place (PlaceLeft ∷ []) (place_parts r.tool r.rule_id r.place r.message) (place_key full) in
          subst (Settles r) (same_Some Place tier (sym at ∙ found)) text

  pub settled : (tier : Tier) → first_tier (finer_tiers names) r ≡ Some tier → Settles r tier
  settled tier found = by_region r.region refl
    where
      past_guid : first_tier (finer_tiers names) r ≡ first_tier (Same ∷ (SameText ∷ (map FingerprintHere names ++ after_here))) r
      past_guid = skip r Guid (Same ∷ (SameText ∷ (map FingerprintHere names ++ after_here))) no_guid

      by_snippet : r.region ≡ None → (o : Option (List ℕ)) → r.snippet ≡ o → Settles r tier
      by_snippet region (Some snippet) text =
          let at = skip r Same (SameText ∷ (map FingerprintHere names ++ after_here)) (same_key None region)
          ∙ stop r SameText (map FingerprintHere names ++ after_here) (text_parts (group_of r) r.full r.partial snippet) (text_key (Some snippet) text) in
          subst (Settles r) (same_Some SameText tier (sym (past_guid ∙ at) ∙ found)) tt
      by_snippet region None text =
          let past = skip r Same (SameText ∷ (map FingerprintHere names ++ after_here)) (same_key None region)
          ∙ skip r SameText (map FingerprintHere names ++ after_here) (text_key None text) in
          settled_plain tier text (sym (past_guid ∙ past) ∙ found)

      by_region : (o : Option Region) → r.region ≡ o → Settles r tier
      by_region (Some region) is =
          let at = stop r Same (SameText ∷ (map FingerprintHere names ++ after_here)) (region_parts (group_of r) r.full r.partial r.snippet region)
          (same_key (Some region) is) in
          subst (Settles r) (same_Some Same tier (sym (past_guid ∙ at) ∙ found)) tt
      by_region None is = by_snippet is r.snippet refl
