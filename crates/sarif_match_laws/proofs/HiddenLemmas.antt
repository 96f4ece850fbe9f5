-- What version 3 calls unchanged has the same snippet, or equal keys at a tier of version 2.
use Rattle.std.proofs.Common.{◌≡◌, ℕ, Bool, true, false, cond, not, ◌&&◌, ◌||◌, ◌==◌, ◌⊎◌, inl, inr, ⊎_elim, List, [], ◌∷◌, Option, Some, None, bytes_eq, is_some, length, slice_get, slice_index_or, refl, sym, ap, ◌∙◌}
use Rattle.std.specs.List.{list_any}
use Rattle.std.specs.Option.{option_map}
use Rattle.std.proofs.lemmas.Bool.{true≢false, false≢true, and_from, and_parts, or_cases}
use Rattle.sarif_model.specs.declared.record.Record.{Record}
use Rattle.sarif_model.specs.declared.kinds.State.TheVariants.{Unchanged}
use Rattle.sarif_match.specs.declared.tier.Tier.{Tier}
use Rattle.sarif_match.specs.declared.tier.Tier.TheVariants.{Guid, Same, SameText, FingerprintHere, Fingerprint, PartialHere, PartialMoved, PlaceText, Place, PlaceLeft}
use Rattle.sarif_evidence.specs.declared.version.MatchingVersion.TheVariants.{Three}
use Rattle.sarif_evidence.specs.Evidence.{are_same_members, by_snippets, has_evidence, has_no_members, has_other_evidence, is_same_guid, share_member, state_in}
use Rattle.sarif_match.specs.Key.{group_of, key_of, value_of}
use Rattle.sarif_evidence.specs.EqualParts.{is_empty, pairs_eq}
use Rattle.sarif_match.specs.KeyParts.{Group, KeyParts, fingerprint_parts, partial_here_parts, place_parts, region_parts, text_parts, fingerprint_here_parts, place_text_parts}
use Rattle.sarif_match.specs.Partners.{partners_in}
use Rattle.sarif_evidence.specs.Seen.{filled, seen}
use Rattle.sarif_match_laws.specs.Hidden.{AreEqualInTwo, HasEachNameOnce, HaveSameSnippet}
use Rattle.sarif_match_laws.proofs.AsMany.{group_in, group_place_left, group_same_text, group_same_tier}
use Rattle.sarif_match_laws.proofs.BlindSpot.{keys_at, tier_of}
use Rattle.sarif_match_laws.proofs.EvidenceLemmas.{both as unchanged_both}
use Rattle.sarif_match_laws.proofs.PairEvidence.{guarded, mapped}
use Rattle.sarif_evidence.proofs.EqualLemmas.{pairs_same, text_refl, same_text}
use Rattle.sarif_match.proofs.SplitLemmas.{none_is_no_some}

-- ---- names that are there once

unlike_names : (m : List ℕ × List ℕ) (ms : List (List ℕ × List ℕ)) (name value : List ℕ) → value_of m.0 ms ≡ None → value_of name ms ≡ Some value
    → value_of name (m ∷ ms) ≡ Some value
unlike_names m ms name value once is = by_name (bytes_eq m.0 name) refl
  where
    by_name : (b : Bool) → bytes_eq m.0 name ≡ b → cond b (Some m.1) (value_of name ms) ≡ Some value
    by_name false other = is
    by_name true same =
        absurd (none_is_no_some value (sym once ∙ ap (λ (n : List ℕ). value_of n ms) (same_text m.0 name same) ∙ is))

member_value : (m : List ℕ × List ℕ) (os : List (List ℕ × List ℕ)) → HasEachNameOnce os
    → list_any (λ other. bytes_eq other.0 m.0 && bytes_eq other.1 m.1) os ≡ true → value_of m.0 os ≡ Some m.1
member_value m [] once is = absurd (false≢true is)
member_value m (o ∷ os) once is =
    ⊎_elim here (λ later. unlike_names o os m.0 m.1 once.0 (member_value m os once.1 later))
    (or_cases (bytes_eq o.0 m.0 && bytes_eq o.1 m.1) (list_any (λ other. bytes_eq other.0 m.0 && bytes_eq other.1 m.1) os) is)
  where
    here : bytes_eq o.0 m.0 && bytes_eq o.1 m.1 ≡ true → value_of m.0 (o ∷ os) ≡ Some m.1
    here both =
        let two = and_parts (bytes_eq o.0 m.0) (bytes_eq o.1 m.1) both in
        ap (λ (b : Bool). cond b (Some o.1) (value_of m.0 os)) two.0 ∙ ap Some (same_text o.1 m.1 two.1)

shared_value : (ms os : List (List ℕ × List ℕ)) → HasEachNameOnce ms → HasEachNameOnce os → share_member ms os ≡ true
    → (name : List ℕ) × (value : List ℕ) × (value_of name ms ≡ Some value) × (value_of name os ≡ Some value)
shared_value [] os once also is = absurd (false≢true is)
shared_value (m ∷ ms) os once also is =
    ⊎_elim
    (λ here. (m.0, m.1, ap (λ (b : Bool). cond b (Some m.1) (value_of m.0 ms)) (text_refl m.0), member_value m os also here))
    (λ later. further (shared_value ms os once.1 also later))
    (or_cases (list_any (λ other. bytes_eq other.0 m.0 && bytes_eq other.1 m.1) os) (share_member ms os) is)
  where
    further : ((name : List ℕ) × (value : List ℕ) × (value_of name ms ≡ Some value) × (value_of name os ≡ Some value))
        → (name : List ℕ) × (value : List ℕ) × (value_of name (m ∷ ms) ≡ Some value) × (value_of name os ≡ Some value)
    further found = (found.0, found.1, unlike_names m ms found.0 found.1 once.0 found.2, found.3)

none_filled : (name : List ℕ) (ms : List (List ℕ × List ℕ)) → value_of name ms ≡ None → value_of name (filled ms) ≡ None
none_filled name [] none = refl
none_filled name (m ∷ ms) none = by_name (bytes_eq m.0 name) refl (not (length m.1 == 0)) (none_filled name ms)
  where
    by_name : (b : Bool) → bytes_eq m.0 name ≡ b → (c : Bool) → (value_of name ms ≡ None → value_of name (filled ms) ≡ None)
        → value_of name (cond c (m ∷ filled ms) (filled ms)) ≡ None
    by_name true same c rest =
        absurd (none_is_no_some m.1 (sym none ∙ ap (λ (b : Bool). cond b (Some m.1) (value_of name ms)) same))
    by_name false other false rest = rest (sym (ap (λ (b : Bool). cond b (Some m.1) (value_of name ms)) other) ∙ none)
    by_name false other true rest =
        ap (λ (b : Bool). cond b (Some m.1) (value_of name (filled ms))) other
        ∙ rest (sym (ap (λ (b : Bool). cond b (Some m.1) (value_of name ms)) other) ∙ none)

once_filled : (ms : List (List ℕ × List ℕ)) → HasEachNameOnce ms → HasEachNameOnce (filled ms)
once_filled [] once = tt
once_filled (m ∷ ms) once = by_test (not (length m.1 == 0)) (once_filled ms once.1)
  where
    by_test : (b : Bool) → HasEachNameOnce (filled ms) → HasEachNameOnce (cond b (m ∷ filled ms) (filled ms))
    by_test true rest = (none_filled m.0 ms once.0, rest)
    by_test false rest = rest

-- ---- equal keys

module _ (a b : Record) where
  abbrev Told : Type 0
  Told = HaveSameSnippet a b ⊎ AreEqualInTwo a b

  by_value : a.tool ≡ b.tool → (name value : List ℕ) → value_of name a.full ≡ Some value → value_of name b.full ≡ Some value → Told
  by_value tool name value mine theirs =
      inr (record {
        tier = Fingerprint name;
        key = fingerprint_parts a.tool name value;
        of_two = refl;
        current_key = ap (option_map (λ (v : List ℕ). fingerprint_parts a.tool name v)) mine;
        partner_key = ap (option_map (λ (v : List ℕ). fingerprint_parts b.tool name v)) theirs ∙ ap (λ (t : List ℕ). Some (fingerprint_parts t name value)) (sym tool);
      })

  module _ (same : group_of a ≡ group_of b) where
    by_partial : a.partial ≡ b.partial → is_empty a.partial ≡ false → Told
    by_partial partial some =
        let key = partial_here_parts a.tool a.rule_id a.place a.partial in
        inr (record {
          tier = PartialHere;
          key = key;
          of_two = refl;
          current_key = ap (λ (e : Bool). cond e None (Some key)) some;
          partner_key =
              ap (λ (e : Bool). cond e None (Some (partial_here_parts b.tool b.rule_id b.place b.partial))) (ap is_empty (sym partial) ∙ some)
              ∙ (λ i. Some (partial_here_parts (sym same i).tool (sym same i).rule_id (sym same i).place (sym partial i)));
        })

    by_neither : a.guid ≡ None → b.guid ≡ None → has_no_members a ≡ true → has_no_members b ≡ true → Told
    by_neither none nor mine theirs =
        let key = place_parts a.tool a.rule_id a.place a.message in
        let no_guid : not (is_some a.guid) ≡ true = ap (λ (o : Option ℕ). not (is_some o)) none in
        let nor_guid : not (is_some b.guid) ≡ true = ap (λ (o : Option ℕ). not (is_some o)) nor in
        inr (record {
          tier = Place;
          key = key;
          of_two = refl;
          current_key = ap (λ (e : Bool). cond e (Some key) None) (and_from (not (is_some a.guid)) (has_no_members a) no_guid mine);
          partner_key =
              ap (λ (e : Bool). cond e (Some (place_parts b.tool b.rule_id b.place b.message)) None)
              (and_from (not (is_some b.guid)) (has_no_members b) nor_guid theirs)
              ∙ ap (λ (g : Group). Some (place_parts g.tool g.rule_id g.place g.message)) (sym same);
        })

    -- both types of fingerprints are the same
    by_all : a.guid ≡ None → b.guid ≡ None → a.full ≡ b.full → a.partial ≡ b.partial → Told
    by_all none nor full partial = by_full a.full refl
      where
        no_full : a.full ≡ [] → (e : Bool) → is_empty a.partial ≡ e → Told
        no_full empty false some = by_partial partial some
        no_full empty true nothing =
            by_neither none nor (and_from (is_empty a.full) (is_empty a.partial) (ap is_empty empty) nothing)
            (and_from (is_empty b.full) (is_empty b.partial) (ap is_empty (sym full ∙ empty)) (ap is_empty (sym partial) ∙ nothing))

        by_full : (members : List (List ℕ × List ℕ)) → a.full ≡ members → Told
        by_full [] is = no_full is (is_empty a.partial) refl
        by_full (m ∷ members) is =
            let first : value_of m.0 (m ∷ members) ≡ Some m.1 = ap (λ (t : Bool). cond t (Some m.1) (value_of m.0 members)) (text_refl m.0) in
            by_value (ap (λ (g : Group). g.tool) same) m.0 m.1 (ap (value_of m.0) is ∙ first) (ap (value_of m.0) (sym full ∙ is) ∙ first)

    -- by what is the same at the last tier
    by_other : a.guid ≡ None → b.guid ≡ None → HasEachNameOnce a.full → HasEachNameOnce b.full → has_other_evidence a b ≡ true → Told
    by_other none nor once also is =
        ⊎_elim (λ guids. absurd (true≢false (sym guids ∙ ap (λ (o : Option ℕ). is_same_guid o b.guid) none ∙ ap (is_same_guid None) nor)))
        (λ rest. ⊎_elim by_shared (λ more. ⊎_elim by_members by_none (or_cases (are_same_members a.partial b.partial) (has_no_members a && has_no_members b) more))
        (or_cases (share_member a.full b.full) (are_same_members a.partial b.partial || (has_no_members a && has_no_members b)) rest))
        (or_cases (is_same_guid a.guid b.guid)
        (share_member a.full b.full || (are_same_members a.partial b.partial || (has_no_members a && has_no_members b))) is)
      where
        by_shared : share_member a.full b.full ≡ true → Told
        by_shared e =
            let found = shared_value a.full b.full once also e in
            by_value (ap (λ (g : Group). g.tool) same) found.0 found.1 found.2 found.3

        is_filled : (e : Bool) → not e ≡ true → e ≡ false
        is_filled false e = refl
        is_filled true e = absurd (false≢true e)

        by_members : are_same_members a.partial b.partial ≡ true → Told
        by_members e =
            let both = and_parts (not (is_empty a.partial)) (pairs_eq a.partial b.partial) e in
            by_partial (pairs_same a.partial b.partial both.1) (is_filled (is_empty a.partial) both.0)

        by_none : has_no_members a && has_no_members b ≡ true → Told
        by_none e = let both = and_parts (has_no_members a) (has_no_members b) e in by_neither none nor both.0 both.1

    by_evidence : a.guid ≡ None → b.guid ≡ None → HasEachNameOnce a.full → HasEachNameOnce b.full → (o p : Option (List ℕ)) → a.snippet ≡ o
        → b.snippet ≡ p → by_snippets o p (has_other_evidence a b) ≡ true → Told
    by_evidence none nor once also (Some s) (Some t) mine theirs is =
        inl (record { snippet = s; current_is = mine; partner_is = theirs ∙ ap Some (sym (same_text s t is)) })
    by_evidence none nor once also (Some s) None mine theirs is = by_other none nor once also is
    by_evidence none nor once also None (Some t) mine theirs is = by_other none nor once also is
    by_evidence none nor once also None None mine theirs is = by_other none nor once also is

  module _ (key : KeyParts) where
    members_of : KeyParts → List (List ℕ × List ℕ)
    members_of (region_parts g f m s l) = f
    members_of (text_parts g f m s) = f
    members_of _ = []

    partial_of : KeyParts → List (List ℕ × List ℕ)
    partial_of (region_parts g f m s l) = m
    partial_of (text_parts g f m s) = m
    partial_of _ = []

    text_of : KeyParts → List ℕ
    text_of (fingerprint_here_parts g n v) = v
    text_of (place_text_parts g s) = s
    text_of _ = []

    tool_of : KeyParts → List ℕ
    tool_of (fingerprint_here_parts g n v) = g.tool
    tool_of _ = []

    two_groups : ((other : Group) → group_in other key ≡ group_of a) → ((other : Group) → group_in other key ≡ group_of b) → group_of a ≡ group_of b
    two_groups mine theirs = sym (mine (group_of a)) ∙ theirs (group_of a)

    at_same : key_of a Same ≡ Some key → key_of b Same ≡ Some key → Told
    unfolding members_of partial_of
    at_same mine theirs =
        let p = group_same_tier a key mine in
        let q = group_same_tier b key theirs in
        let m = mapped (λ region. region_parts (group_of a) a.full a.partial a.snippet region) a.region key (guarded a.guid _ key mine).1 in
        let t = mapped (λ region. region_parts (group_of b) b.full b.partial b.snippet region) b.region key (guarded b.guid _ key theirs).1 in
        by_all (two_groups p.1 q.1) p.0 q.0 (ap members_of (m.2 ∙ sym t.2)) (ap partial_of (m.2 ∙ sym t.2))

    at_same_text : key_of a SameText ≡ Some key → key_of b SameText ≡ Some key → Told
    unfolding members_of partial_of
    at_same_text mine theirs =
        let p = group_same_text a key mine in
        let q = group_same_text b key theirs in
        let m = mapped (λ snippet. text_parts (group_of a) a.full a.partial snippet) a.snippet key (guarded a.guid _ key mine).1 in
        let t = mapped (λ snippet. text_parts (group_of b) b.full b.partial snippet) b.snippet key (guarded b.guid _ key theirs).1 in
        by_all (two_groups p.1 q.1) p.0 q.0 (ap members_of (m.2 ∙ sym t.2)) (ap partial_of (m.2 ∙ sym t.2))

    at_here : (name : List ℕ) → key_of a (FingerprintHere name) ≡ Some key → key_of b (FingerprintHere name) ≡ Some key → Told
    unfolding text_of tool_of
    at_here name mine theirs =
        let m = mapped (λ (value : List ℕ). fingerprint_here_parts (group_of a) name value) (value_of name a.full) key mine in
        let t = mapped (λ (value : List ℕ). fingerprint_here_parts (group_of b) name value) (value_of name b.full) key theirs in
        by_value (ap tool_of (m.2 ∙ sym t.2)) name m.0 m.1 (t.1 ∙ ap Some (ap text_of (t.2 ∙ sym m.2)))

    at_text : key_of a PlaceText ≡ Some key → key_of b PlaceText ≡ Some key → Told
    unfolding text_of
    at_text mine theirs =
        let m = mapped (λ snippet. place_text_parts (group_of a) snippet) a.snippet key (guarded a.guid _ key mine).1 in
        let t = mapped (λ snippet. place_text_parts (group_of b) snippet) b.snippet key (guarded b.guid _ key theirs).1 in
        inl (record { snippet = m.0; current_is = m.1; partner_is = t.1 ∙ ap Some (ap text_of (t.2 ∙ sym m.2)) })

    at_last : HasEachNameOnce a.full → HasEachNameOnce b.full → has_evidence a b ≡ true → key_of a PlaceLeft ≡ Some key
        → key_of b PlaceLeft ≡ Some key → Told
    at_last once also is mine theirs =
        let p = group_place_left a key mine in
        let q = group_place_left b key theirs in
        by_evidence (two_groups p.1 q.1) p.0 q.0 once also a.snippet b.snippet refl refl is

    told : (tier : Tier) → HasEachNameOnce a.full → HasEachNameOnce b.full → has_evidence a b ≡ true → key_of a tier ≡ Some key
        → key_of b tier ≡ Some key → Told
    told Guid once also is mine theirs = inr (record { tier = Guid; key = key; of_two = refl; current_key = mine; partner_key = theirs })
    told (Fingerprint name) once also is mine theirs =
        inr (record { tier = Fingerprint name; key = key; of_two = refl; current_key = mine; partner_key = theirs })
    told PartialHere once also is mine theirs =
        inr (record { tier = PartialHere; key = key; of_two = refl; current_key = mine; partner_key = theirs })
    told PartialMoved once also is mine theirs =
        inr (record { tier = PartialMoved; key = key; of_two = refl; current_key = mine; partner_key = theirs })
    told Place once also is mine theirs = inr (record { tier = Place; key = key; of_two = refl; current_key = mine; partner_key = theirs })
    told Same once also is mine theirs = at_same mine theirs
    told SameText once also is mine theirs = at_same_text mine theirs
    told (FingerprintHere name) once also is mine theirs = at_here name mine theirs
    told PlaceText once also is mine theirs = at_text mine theirs
    told PlaceLeft once also is mine theirs = at_last once also is mine theirs

pub nothing_hidden : (current baseline : List Record) (i j : ℕ) (r b : Record) → slice_get current i ≡ Some r → slice_get baseline j ≡ Some b
    → HasEachNameOnce r.full → HasEachNameOnce b.full → slice_index_or (partners_in Three current baseline) i None ≡ Some j
    → state_in Three r (Some b) ≡ Unchanged → HaveSameSnippet (seen r) (seen b) ⊎ AreEqualInTwo (seen r) (seen b)
nothing_hidden current baseline i j r b mine theirs once also partner unchanged =
    let t = tier_of current baseline i j partner in
    let k = keys_at current baseline t.1.0 i j r b mine theirs t.1.1 in
    told (seen r) (seen b) k.0 t.1.0 (once_filled r.full once) (once_filled b.full also) (unchanged_both r b unchanged).1 k.1 k.2
