-- Facts about the matches in both versions.
use Rattle.std.proofs.Common.{◌≡◌, ℕ, ◌-◌, ◌<◌, ◌≤◌, false, cond, List, [], ◌∷◌, ◌++◌, Option, Some, None, length, map, option_map, reverse, is_some, slice_get, slice_index_or, ⊎_elim, refl, sym, ap, ◌∙◌, subst, arith, append_assoc}
use Rattle.std.specs.Prelude.{option_and_then}
use Rattle.std.proofs.Math.ListN.{get_or, get_or-eq_default}
use Rattle.std.proofs.lemmas.Bool.{cases_lt}
use Rattle.std.proofs.lemmas.List.{get_or-reverse, length-map, length-reverse}
use Rattle.std.proofs.lemmas.Option.{get_or_from_slice_get, slice_get-get_or, slice_get-map, slice_get_within}
use Rattle.sarif_model.specs.declared.record.Record.{Record}
use Rattle.sarif_match.specs.declared.tier.Tier.{Tier}
use Rattle.sarif_match.specs.declared.tier.Tier.TheVariants.{Guid, Same, SameText, FingerprintHere, Fingerprint, PartialHere, PartialMoved, PlaceText, Place, PlaceLeft}
use Rattle.sarif_evidence.specs.declared.version.MatchingVersion.{MatchingVersion}
use Rattle.sarif_evidence.specs.declared.version.MatchingVersion.TheVariants.{Two, Three}
use Rattle.sarif_match.specs.Key.{group_of, key_of}
use Rattle.sarif_match.specs.KeyParts.{Group, KeyParts, place_left_parts}
use Rattle.sarif_evidence.specs.Seen.{seen}
use Rattle.sarif_match.specs.Tiers.{falling_names, finer_tiers, tiers_in}
use Rattle.sarif_match.specs.Partners.{from_end, is_taken, partners_after, partners_in, seen_from_end, turned}
use Rattle.sarif_match.specs.Internal.Paired.{key_at, key_in_at}
use Rattle.sarif_match.specs.Internal.Turned.{AreBelow}
use Rattle.sarif_match.proofs.LawLemmas.{after_counts, once_after_tiers, partner_below, partners-once}
use Rattle.sarif_match_laws.proofs.NoneLeft.{no_common_key}
use Rattle.sarif_match.proofs.SplitLemmas.{none_is_no_some}
use Rattle.sarif_match.proofs.TurnedLemmas.{length-seen, partner_turned, partners_below, taken_within}

-- a result and its number in the other direction
pub seen_at : (rs : List Record) (i : ℕ) (r : Record) → slice_get rs i ≡ Some r → slice_get (seen_from_end rs) (from_end (length rs) i) ≡ Some (seen r)
seen_at rs i r found =
    let xs : List Record = map seen rs in
    let k : ℕ = from_end (length rs) i in
    let within : i < length rs = slice_get_within rs i r found in
    let counted : length xs ≡ length rs = length-map rs seen in
    let short : length rs - 1 - i < length xs = omega (arith, counted, within) in
    let long : length rs - 1 - i < length (reverse xs) = omega (arith, length-reverse xs, short) in
    let back : length xs - 1 - (length rs - 1 - i) ≡ i = omega (arith, counted, within) in
    let there : slice_get xs i ≡ Some (seen r) = slice_get-map seen rs i ∙ ap (option_map seen) found in
    slice_get-get_or (reverse xs) k (seen r) long
    ∙ ap Some (get_or-reverse xs k (seen r) short ∙ ap (λ (n : ℕ). get_or xs n (seen r)) back ∙ get_or_from_slice_get xs i (seen r) (seen r) there)

module _ (tier : Tier) (rs : List Record) (i : ℕ) (key : KeyParts) (is : key_in_at Three tier rs i ≡ Some key) where
  abbrev key_seen : Option Record → Option KeyParts
  key_seen o = option_and_then (λ (r : Record). key_of (seen r) tier) o

  -- a result that has a key, among the others in reverse order
  keyed_from_end : (i < length rs) × (key_at tier (seen_from_end rs) (from_end (length rs) i) ≡ Some key)
  keyed_from_end = by_result (slice_get rs i) refl
    where
      by_result : (o : Option Record) → slice_get rs i ≡ o → (i < length rs) × (key_at tier (seen_from_end rs) (from_end (length rs) i) ≡ Some key)
      by_result None none = absurd (none_is_no_some key (sym (ap key_seen none) ∙ is))
      by_result (Some r) found =
          (slice_get_within rs i r found, ap (option_and_then (λ (x : Record). key_of x tier)) (seen_at rs i r found) ∙ sym (ap key_seen found) ∙ is)

no_map : (f : ℕ → ℕ) (o : Option ℕ) → option_map f o ≡ None → o ≡ None
no_map f None is = refl
no_map f (Some t) is = let never : ⊥ = cc in absurd never

some_map : (f : ℕ → ℕ) (o : Option ℕ) (j : ℕ) → option_map f o ≡ Some j → (t : ℕ) × (o ≡ Some t) × (f t ≡ j)
some_map f None j is = absurd (none_is_no_some j is)
some_map f (Some t) j is = let same : f t ≡ j = cc in (t, refl, same)

module _ (current baseline : List Record) where
  abbrev pub found : List (Option ℕ)
  found = partners_after (seen_from_end current) (seen_from_end baseline) (tiers_in Three current baseline)

  counted : length found ≡ length current
  counted = after_counts (seen_from_end current) (seen_from_end baseline) (tiers_in Three current baseline) ∙ length-seen current

  below : AreBelow (length baseline) found
  below =
      subst (λ (m : ℕ). AreBelow m found) (length-seen baseline)
      (partners_below (seen_from_end current) (seen_from_end baseline) (tiers_in Three current baseline))

  -- the match of a current result, by its number in the other direction
  pub partner_from_end : (i : ℕ) → i < length current
      → slice_index_or (partners_in Three current baseline) i None
      ≡ option_map (from_end (length baseline)) (slice_index_or found (from_end (length current) i) None)
  partner_from_end i within =
      partner_turned (length baseline) i found (omega (arith, counted, within))
      ∙ ap (λ (n : ℕ). option_map (from_end (length baseline)) (slice_index_or found (n - 1 - i) None)) counted

  module _ (before after : List Tier) (tier : Tier) (i j : ℕ) (key : KeyParts) (in_order : tiers_in Three current baseline ≡ before ++ (tier ∷ after)) where
    no_common_key_from_end : slice_index_or (partners_in Three current baseline) i None ≡ None
        → is_taken (partners_in Three current baseline) j ≡ false → key_in_at Three tier current i ≡ Some key
        → key_in_at Three tier baseline j ≡ Some key → ⊥
    no_common_key_from_end none no_mark current_key baseline_key =
        let cs = seen_from_end current in
        let bs = seen_from_end baseline in
        let c = keyed_from_end tier current i key current_key in
        let b = keyed_from_end tier baseline j key baseline_key in
        let alone : slice_index_or found (from_end (length current) i) None ≡ None =
        no_map (from_end (length baseline)) _ (sym (partner_from_end i c.0) ∙ none) in
        let is_free : is_taken found (from_end (length baseline) j) ≡ false = sym (taken_within (length baseline) j found b.0 below) ∙ no_mark in
        no_common_key cs bs before after tier (from_end (length current) i) (from_end (length baseline) j) key
        (ap (λ (ts : List Tier). slice_index_or (partners_after cs bs ts) (from_end (length current) i) None) (sym in_order) ∙ alone)
        (ap (λ (ts : List Tier). is_taken (partners_after cs bs ts) (from_end (length baseline) j)) (sym in_order) ∙ is_free)
        c.1 b.1

  -- the last tier is by group
  abbrev pub but_last : List (List ℕ) → List Tier
  but_last names =
      Guid ∷ (Same ∷ (SameText ∷ (map FingerprintHere names ++ (PartialHere ∷ (map Fingerprint names ++ (PartialMoved ∷ (PlaceText ∷ (Place ∷ []))))))))

  pub last_is_group : (names : List (List ℕ)) → finer_tiers names ≡ but_last names ++ (PlaceLeft ∷ [])
  last_is_group names =
      ap (λ (ts : List Tier). Guid ∷ (Same ∷ (SameText ∷ ts)))
      (ap (λ (ts : List Tier). map FingerprintHere names ++ (PartialHere ∷ ts))
      (sym (append_assoc (map Fingerprint names) (PartialMoved ∷ (PlaceText ∷ (Place ∷ []))) (PlaceLeft ∷ [])))
      ∙ sym (append_assoc (map FingerprintHere names) (PartialHere ∷ (map Fingerprint names ++ (PartialMoved ∷ (PlaceText ∷ (Place ∷ []))))) (PlaceLeft ∷ [])))

  by_group : (rs : List Record) (i : ℕ) (r : Record) (group : Group) → slice_get rs i ≡ Some r → r.guid ≡ None → group_of r ≡ group
      → key_in_at Three PlaceLeft rs i ≡ Some (place_left_parts group)
  by_group rs i r group here guid same =
      ap (option_and_then (λ (x : Record). key_of (seen x) PlaceLeft)) here
      ∙ ap (λ (o : Option ℕ). cond (is_some o) None (Some (place_left_parts (group_of r)))) guid
      ∙ ap (λ (g : Group). Some (place_left_parts g)) same

  pub no_group_left : (i j : ℕ) (r b : Record) → slice_get current i ≡ Some r → slice_get baseline j ≡ Some b → r.guid ≡ None
      → b.guid ≡ None → group_of r ≡ group_of b → slice_index_or (partners_in Three current baseline) i None ≡ None
      → is_taken (partners_in Three current baseline) j ≡ false → ⊥
  no_group_left i j r b current_is baseline_is no_guid none_either same none no_mark =
      no_common_key_from_end (but_last (falling_names (map seen current) (map seen baseline))) [] PlaceLeft i j
      (place_left_parts (group_of b)) (last_is_group (falling_names (map seen current) (map seen baseline))) none no_mark
      (by_group current i r (group_of b) current_is no_guid same) (by_group baseline j b (group_of b) baseline_is none_either refl)

  -- a match and its number in the other direction
  pub found_from_end : (i j : ℕ) → slice_index_or (partners_in Three current baseline) i None ≡ Some j
      → (i < length current) × ((t : ℕ) × (slice_index_or found (from_end (length current) i) None ≡ Some t) × (from_end (length baseline) t ≡ j))
  found_from_end i j is = ⊎_elim within past (cases_lt i (length current))
    where
      within : i < length current
          → (i < length current)
          × ((t : ℕ) × (slice_index_or found (from_end (length current) i) None ≡ Some t) × (from_end (length baseline) t ≡ j))
      within lt = (lt, some_map (from_end (length baseline)) _ j (sym (partner_from_end i lt) ∙ is))

      past : length current ≤ i
          → (i < length current)
          × ((t : ℕ) × (slice_index_or found (from_end (length current) i) None ≡ Some t) × (from_end (length baseline) t ≡ j))
      past le =
          let f = option_map (from_end (length baseline)) in
          let short : length (turned (length baseline) found) ≤ i = omega (arith, length-reverse (map f found), length-map found f, counted, le) in
          absurd (none_is_no_some j (sym (get_or-eq_default (turned (length baseline) found) None short) ∙ is))

  once_from_end : (i k j : ℕ) → slice_index_or (partners_in Three current baseline) i None ≡ Some j
      → slice_index_or (partners_in Three current baseline) k None ≡ Some j → i ≡ k
  once_from_end i k j at_i at_k =
      let cs = seen_from_end current in
      let bs = seen_from_end baseline in
      let a = found_from_end i j at_i in
      let b = found_from_end k j at_k in
      let many : length bs ≡ length baseline = length-seen baseline in
      let t_below : a.1.0 < length bs = partner_below cs bs (tiers_in Three current baseline) (from_end (length current) i) a.1.0 a.1.1 in
      let u_below : b.1.0 < length bs = partner_below cs bs (tiers_in Three current baseline) (from_end (length current) k) b.1.0 b.1.1 in
      let t_is : length baseline - 1 - a.1.0 ≡ j = a.1.2 in
      let u_is : length baseline - 1 - b.1.0 ≡ j = b.1.2 in
      let same : b.1.0 ≡ a.1.0 = omega (arith, many, t_below, u_below, t_is, u_is) in
      let numbers : length current - 1 - i ≡ length current - 1 - k =
      once_after_tiers cs bs (tiers_in Three current baseline) (from_end (length current) i) (from_end (length current) k) a.1.0 a.1.1
      (b.1.1 ∙ ap Some same) in
      let i_below : i < length current = a.0 in
      let k_below : k < length current = b.0 in
      omega (arith, numbers, i_below, k_below)

pub nothing_left : (version : MatchingVersion) (current baseline : List Record) (before after : List Tier) (tier : Tier) (i j : ℕ)
    (key : KeyParts) → tiers_in version current baseline ≡ before ++ (tier ∷ after)
    → slice_index_or (partners_in version current baseline) i None ≡ None → is_taken (partners_in version current baseline) j ≡ false
    → key_in_at version tier current i ≡ Some key → key_in_at version tier baseline j ≡ Some key → ⊥
nothing_left Two current baseline before after tier i j key in_order none no_mark current_key baseline_key =
    no_common_key current baseline before after tier i j key
    (ap (λ (ts : List Tier). slice_index_or (partners_after current baseline ts) i None) (sym in_order) ∙ none)
    (ap (λ (ts : List Tier). is_taken (partners_after current baseline ts) j) (sym in_order) ∙ no_mark) current_key baseline_key
nothing_left Three current baseline before after tier i j key in_order none no_mark current_key baseline_key =
    no_common_key_from_end current baseline before after tier i j key in_order none no_mark current_key baseline_key

pub once_in : (version : MatchingVersion) (current baseline : List Record) (i k j : ℕ)
    → slice_index_or (partners_in version current baseline) i None ≡ Some j
    → slice_index_or (partners_in version current baseline) k None ≡ Some j → i ≡ k
once_in Two current baseline = partners-once current baseline
once_in Three current baseline = once_from_end current baseline
