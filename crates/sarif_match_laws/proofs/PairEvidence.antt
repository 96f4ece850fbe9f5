-- What two results with equal keys at a tier have in common.
use Rattle.std.proofs.Common.{◌≡◌, ◌≢◌, ℕ, Bool, true, false, cond, not, ◌&&◌, ◌||◌, ◌⊎◌, inl, inr, List, [], ◌∷◌, Option, Some, None, bytes_eq, option_map, is_some, refl, sym, ap, ◌∙◌, eq-eqb}
use mathlib.Core.Bool.{or-true}
use Rattle.std.specs.List.{list_any}
use Rattle.std.proofs.lemmas.Bool.{and_from, and_parts, true≢false}
use Rattle.std.proofs.lemmas.Option.{same_Some}
use Rattle.sarif_model.specs.declared.record.Record.{Record}
use Rattle.sarif_match.specs.declared.tier.Tier.{Tier}
use Rattle.sarif_match.specs.declared.tier.Tier.TheVariants.{Guid, Same, SameText, FingerprintHere, Fingerprint, PartialHere, PartialMoved, PlaceText, Place, PlaceLeft}
use Rattle.sarif_evidence.specs.Evidence.{are_same_members, by_snippets, has_evidence, has_no_members, has_other_evidence, is_same_guid, share_member}
use Rattle.sarif_match.specs.Key.{group_of, is_unnamed, key_of, value_of}
use Rattle.sarif_evidence.specs.EqualParts.{is_empty, pairs_eq}
use Rattle.sarif_match.specs.KeyParts.{KeyParts, guid_parts, fingerprint_parts, partial_here_parts, partial_moved_parts, place_parts, region_parts, text_parts, fingerprint_here_parts, place_text_parts, place_left_parts}
use Rattle.sarif_evidence.proofs.EqualLemmas.{pairs_refl, text_refl, same_text}
use Rattle.sarif_match.proofs.SplitLemmas.{none_is_no_some}

-- ---- where a key is from

pub mapped : {X : Type 0} (f : X → KeyParts) (o : Option X) (key : KeyParts) → option_map f o ≡ Some key → (x : X) × (o ≡ Some x) × (f x ≡ key)
mapped f None key is = absurd (none_is_no_some key is)
mapped f (Some x) key is = (x, refl, same_Some (f x) key is)

pub guarded : (guid : Option ℕ) (o : Option KeyParts) (key : KeyParts) → cond (is_some guid) None o ≡ Some key → (guid ≡ None) × (o ≡ Some key)
guarded None o key is = (refl, is)
guarded (Some guid) o key is = absurd (none_is_no_some key is)

unless : (b : Bool) (k key : KeyParts) → cond b None (Some k) ≡ Some key → (b ≡ false) × (k ≡ key)
unless false k key is = (refl, same_Some k key is)
unless true k key is = absurd (none_is_no_some key is)

pub where_so : (b : Bool) (k key : KeyParts) → cond b (Some k) None ≡ Some key → (b ≡ true) × (k ≡ key)
where_so true k key is = (refl, same_Some k key is)
where_so false k key is = absurd (none_is_no_some key is)

-- ---- the parts of a key

pub tool_in : KeyParts → List ℕ
tool_in (guid_parts t g) = t
tool_in (fingerprint_parts t n v) = t
tool_in (partial_here_parts t r p m) = t
tool_in (partial_moved_parts t r m) = t
tool_in (place_parts t r p m) = t
tool_in (region_parts g f m s l) = g.tool
tool_in (text_parts g f m s) = g.tool
tool_in (fingerprint_here_parts g n v) = g.tool
tool_in (place_text_parts g s) = g.tool
tool_in (place_left_parts g) = g.tool

members_in : List (List ℕ × List ℕ) → KeyParts → List (List ℕ × List ℕ)
members_in other (region_parts g f m s l) = f
members_in other (text_parts g f m s) = f
members_in other _ = other

partial_in : List (List ℕ × List ℕ) → KeyParts → List (List ℕ × List ℕ)
partial_in other (partial_here_parts t r p m) = m
partial_in other (partial_moved_parts t r m) = m
partial_in other (region_parts g f m s l) = m
partial_in other (text_parts g f m s) = m
partial_in other _ = other

text_in : List ℕ → KeyParts → List ℕ
text_in other (fingerprint_parts t n v) = v
text_in other (fingerprint_here_parts g n v) = v
text_in other (place_text_parts g s) = s
text_in other _ = other

guid_in : ℕ → KeyParts → ℕ
guid_in other (guid_parts t g) = g
guid_in other _ = other

-- the key of a result has its tool
pub has_tool : (r : Record) (tier : Tier) (key : KeyParts) → key_of r tier ≡ Some key → tool_in key ≡ r.tool
unfolding tool_in
has_tool r Guid key is = let m = mapped (λ (guid : ℕ). guid_parts r.tool guid) r.guid key is in sym (ap tool_in m.2)
has_tool r (Fingerprint name) key is =
    let m = mapped (λ (value : List ℕ). fingerprint_parts r.tool name value) (value_of name r.full) key is in sym (ap tool_in m.2)
has_tool r PartialHere key is =
    let m = unless (is_empty r.partial) (partial_here_parts r.tool r.rule_id r.place r.partial) key is in sym (ap tool_in m.1)
has_tool r PartialMoved key is =
    let m = unless (is_empty r.partial) (partial_moved_parts r.tool r.rule_id r.partial) key is in sym (ap tool_in m.1)
has_tool r Place key is =
    let m = where_so (is_unnamed r) (place_parts r.tool r.rule_id r.place r.message) key is in sym (ap tool_in m.1)
has_tool r Same key is =
    let m = mapped (λ region. region_parts (group_of r) r.full r.partial r.snippet region) r.region key (guarded r.guid _ key is).1 in
    sym (ap tool_in m.2)
has_tool r SameText key is =
    let m = mapped (λ snippet. text_parts (group_of r) r.full r.partial snippet) r.snippet key (guarded r.guid _ key is).1 in sym (ap tool_in m.2)
has_tool r (FingerprintHere name) key is =
    let m = mapped (λ (value : List ℕ). fingerprint_here_parts (group_of r) name value) (value_of name r.full) key is in sym (ap tool_in m.2)
has_tool r PlaceText key is =
    let m = mapped (λ snippet. place_text_parts (group_of r) snippet) r.snippet key (guarded r.guid _ key is).1 in sym (ap tool_in m.2)
has_tool r PlaceLeft key is =
    let k : place_left_parts (group_of r) ≡ key = same_Some _ key (guarded r.guid _ key is).1 in sym (ap tool_in k)

-- ---- evidence

second : (a b c : Bool) → b ≡ true → a || (b || c) ≡ true
second true b c is = refl
second false b c is = ap (λ (x : Bool). x || c) is

third : (a b c d : Bool) → c ≡ true → a || (b || (c || d)) ≡ true
third true b c d is = refl
third false b c d is = second b c d is

fourth : (a b c d : Bool) → d ≡ true → a || (b || (c || d)) ≡ true
fourth a b c true is = ap (λ (x : Bool). a || (b || x)) (or-true c) ∙ ap (λ (x : Bool). a || x) (or-true b) ∙ or-true a
fourth a b c false is = absurd (true≢false (sym is))

abbrev is_member : List ℕ × List ℕ → List ℕ × List ℕ → Bool
is_member member other = bytes_eq other.0 member.0 && bytes_eq other.1 member.1

abbrev has_member : List ℕ × List ℕ → List (List ℕ × List ℕ) → Bool
has_member member others = list_any (is_member member) others

-- the value of a name is a member
value_is_member : (member : List ℕ × List ℕ) (others : List (List ℕ × List ℕ)) → value_of member.0 others ≡ Some member.1 → has_member member others ≡ true
value_is_member member [] is = absurd (none_is_no_some member.1 is)
value_is_member member (o ∷ others) is = by_name (bytes_eq o.0 member.0) refl (value_is_member member others)
  where
    by_name : (b : Bool) → bytes_eq o.0 member.0 ≡ b → (value_of member.0 others ≡ Some member.1 → has_member member others ≡ true)
        → has_member member (o ∷ others) ≡ true
    by_name true same later =
        let value : o.1 ≡ member.1 = same_Some o.1 member.1 (sym (ap (λ (b : Bool). cond b (Some o.1) (value_of member.0 others)) same) ∙ is) in
        ap (λ (b : Bool). b || has_member member others)
        (and_from (bytes_eq o.0 member.0) (bytes_eq o.1 member.1) same (ap (λ (v : List ℕ). bytes_eq v member.1) value ∙ text_refl member.1))
    by_name false other later =
        let rest : value_of member.0 others ≡ Some member.1 = sym (ap (λ (b : Bool). cond b (Some o.1) (value_of member.0 others)) other) ∙ is in
        ap (λ (b : Bool). is_member member o || b) (later rest) ∙ or-true (is_member member o)

-- a name with the same value in both
value_is_shared : (name value : List ℕ) (members others : List (List ℕ × List ℕ)) → value_of name members ≡ Some value
    → value_of name others ≡ Some value → share_member members others ≡ true
value_is_shared name value [] others mine theirs = absurd (none_is_no_some value mine)
value_is_shared name value (m ∷ members) others mine theirs =
    by_name (bytes_eq m.0 name) refl (λ rest. value_is_shared name value members others rest theirs)
  where
    by_name : (b : Bool) → bytes_eq m.0 name ≡ b → (value_of name members ≡ Some value → share_member members others ≡ true)
        → share_member (m ∷ members) others ≡ true
    by_name true same later =
        let own : m.1 ≡ value = same_Some m.1 value (sym (ap (λ (b : Bool). cond b (Some m.1) (value_of name members)) same) ∙ mine) in
        let here : value_of m.0 others ≡ Some m.1 =
        ap (λ (n : List ℕ). value_of n others) (same_text m.0 name same) ∙ theirs ∙ ap Some (sym own) in
        ap (λ (b : Bool). b || share_member members others) (value_is_member m others here)
    by_name false other later =
        let rest : value_of name members ≡ Some value = sym (ap (λ (b : Bool). cond b (Some m.1) (value_of name members)) other) ∙ mine in
        ap (λ (b : Bool). has_member m others || b) (later rest) ∙ or-true (has_member m others)

module _ (a b : Record) where
  abbrev guids : Bool
  guids = is_same_guid a.guid b.guid

  abbrev shared : Bool
  shared = share_member a.full b.full

  abbrev partials : Bool
  partials = are_same_members a.partial b.partial

  abbrev neither : Bool
  neither = has_no_members a && has_no_members b

  by_guid : (guid : ℕ) → a.guid ≡ Some guid → b.guid ≡ Some guid → has_other_evidence a b ≡ true
  by_guid guid mine theirs =
      ap (λ (o : Option ℕ). is_same_guid o b.guid || (shared || (partials || neither))) mine
      ∙ ap (λ (o : Option ℕ). is_same_guid (Some guid) o || (shared || (partials || neither))) theirs
      ∙ ap (λ (t : Bool). t || (shared || (partials || neither))) (eq-eqb guid guid refl)

  by_value : (name value : List ℕ) → value_of name a.full ≡ Some value → value_of name b.full ≡ Some value → has_other_evidence a b ≡ true
  by_value name value mine theirs =
      second guids shared (partials || neither) (value_is_shared name value a.full b.full mine theirs)

  by_partial : is_empty a.partial ≡ false → a.partial ≡ b.partial → has_other_evidence a b ≡ true
  by_partial filled same =
      third guids shared partials neither
      (and_from (not (is_empty a.partial)) (pairs_eq a.partial b.partial) (ap not filled)
      (ap (pairs_eq a.partial) (sym same) ∙ pairs_refl a.partial))

  by_neither : has_no_members a ≡ true → has_no_members b ≡ true → has_other_evidence a b ≡ true
  by_neither mine theirs =
      fourth guids shared partials neither (and_from (has_no_members a) (has_no_members b) mine theirs)

  -- both types of fingerprints are the same
  by_all : a.full ≡ b.full → a.partial ≡ b.partial → has_other_evidence a b ≡ true
  by_all full partial = by_full a.full refl
    where
      no_full : a.full ≡ [] → (e : Bool) → is_empty a.partial ≡ e → has_other_evidence a b ≡ true
      no_full none false filled = by_partial filled partial
      no_full none true empty =
          by_neither (and_from (is_empty a.full) (is_empty a.partial) (ap is_empty none) empty)
          (and_from (is_empty b.full) (is_empty b.partial) (ap is_empty (sym full ∙ none)) (ap is_empty (sym partial) ∙ empty))

      by_full : (members : List (List ℕ × List ℕ)) → a.full ≡ members → has_other_evidence a b ≡ true
      by_full [] is = no_full is (is_empty a.partial) refl
      by_full (m ∷ members) is =
          let first : value_of m.0 (m ∷ members) ≡ Some m.1 = ap (λ (t : Bool). cond t (Some m.1) (value_of m.0 members)) (text_refl m.0) in
          by_value m.0 m.1 (ap (value_of m.0) is ∙ first) (ap (value_of m.0) (sym full ∙ is) ∙ first)

  -- ---- what a tier vouches for

  abbrev Vouches : Type 0
  Vouches = has_other_evidence a b ≡ true

  module _ (key : KeyParts) where
    by_same : key_of a Same ≡ Some key → key_of b Same ≡ Some key → Vouches
    unfolding members_in partial_in
    by_same mine theirs =
        let m = mapped (λ region. region_parts (group_of a) a.full a.partial a.snippet region) a.region key (guarded a.guid _ key mine).1 in
        let t = mapped (λ region. region_parts (group_of b) b.full b.partial b.snippet region) b.region key (guarded b.guid _ key theirs).1 in
        by_all (ap (members_in []) (m.2 ∙ sym t.2)) (ap (partial_in []) (m.2 ∙ sym t.2))

    by_same_text : key_of a SameText ≡ Some key → key_of b SameText ≡ Some key → Vouches
    unfolding members_in partial_in
    by_same_text mine theirs =
        let m = mapped (λ snippet. text_parts (group_of a) a.full a.partial snippet) a.snippet key (guarded a.guid _ key mine).1 in
        let t = mapped (λ snippet. text_parts (group_of b) b.full b.partial snippet) b.snippet key (guarded b.guid _ key theirs).1 in
        by_all (ap (members_in []) (m.2 ∙ sym t.2)) (ap (partial_in []) (m.2 ∙ sym t.2))

    by_guids : key_of a Guid ≡ Some key → key_of b Guid ≡ Some key → Vouches
    unfolding guid_in
    by_guids mine theirs =
        let m = mapped (λ (guid : ℕ). guid_parts a.tool guid) a.guid key mine in
        let t = mapped (λ (guid : ℕ). guid_parts b.tool guid) b.guid key theirs in
        by_guid m.0 m.1 (t.1 ∙ ap Some (ap (guid_in 0) (t.2 ∙ sym m.2)))

    by_fingerprint : (name : List ℕ) → key_of a (Fingerprint name) ≡ Some key → key_of b (Fingerprint name) ≡ Some key → Vouches
    unfolding text_in
    by_fingerprint name mine theirs =
        let m = mapped (λ (value : List ℕ). fingerprint_parts a.tool name value) (value_of name a.full) key mine in
        let t = mapped (λ (value : List ℕ). fingerprint_parts b.tool name value) (value_of name b.full) key theirs in
        by_value name m.0 m.1 (t.1 ∙ ap Some (ap (text_in []) (t.2 ∙ sym m.2)))

    by_fingerprint_here : (name : List ℕ) → key_of a (FingerprintHere name) ≡ Some key → key_of b (FingerprintHere name) ≡ Some key → Vouches
    unfolding text_in
    by_fingerprint_here name mine theirs =
        let m = mapped (λ (value : List ℕ). fingerprint_here_parts (group_of a) name value) (value_of name a.full) key mine in
        let t = mapped (λ (value : List ℕ). fingerprint_here_parts (group_of b) name value) (value_of name b.full) key theirs in
        by_value name m.0 m.1 (t.1 ∙ ap Some (ap (text_in []) (t.2 ∙ sym m.2)))

    by_partial_here : key_of a PartialHere ≡ Some key → key_of b PartialHere ≡ Some key → Vouches
    unfolding partial_in
    by_partial_here mine theirs =
        let m = unless (is_empty a.partial) (partial_here_parts a.tool a.rule_id a.place a.partial) key mine in
        let t = unless (is_empty b.partial) (partial_here_parts b.tool b.rule_id b.place b.partial) key theirs in
        by_partial m.0 (ap (partial_in []) (m.1 ∙ sym t.1))

    by_partial_moved : key_of a PartialMoved ≡ Some key → key_of b PartialMoved ≡ Some key → Vouches
    unfolding partial_in
    by_partial_moved mine theirs =
        let m = unless (is_empty a.partial) (partial_moved_parts a.tool a.rule_id a.partial) key mine in
        let t = unless (is_empty b.partial) (partial_moved_parts b.tool b.rule_id b.partial) key theirs in
        by_partial m.0 (ap (partial_in []) (m.1 ∙ sym t.1))

    by_place : key_of a Place ≡ Some key → key_of b Place ≡ Some key → Vouches
    by_place mine theirs =
        let m = where_so (is_unnamed a) (place_parts a.tool a.rule_id a.place a.message) key mine in
        let t = where_so (is_unnamed b) (place_parts b.tool b.rule_id b.place b.message) key theirs in
        by_neither (and_parts (not (is_some a.guid)) (has_no_members a) m.0).1 (and_parts (not (is_some b.guid)) (has_no_members b) t.0).1

  -- both have a snippet, and the two are not the same
  abbrev pub AreUnlike : Type 0
  AreUnlike = (s : List ℕ) × (t : List ℕ) × (a.snippet ≡ Some s) × (b.snippet ≡ Some t) × (s ≢ t)

  -- there is evidence for a pair, unless it is of the last tier or its two snippets differ
  by_two : (o p : Option (List ℕ)) → a.snippet ≡ o → b.snippet ≡ p → (bool : Bool) → by_snippets o p (has_other_evidence a b) ≡ bool
      → has_other_evidence a b ≡ true → (has_evidence a b ≡ true) ⊎ AreUnlike
  by_two (Some s) (Some t) mine theirs true is other = inl (given (Some s) (Some t) mine theirs ∙ is)
    where
      given : (o p : Option (List ℕ)) → a.snippet ≡ o → b.snippet ≡ p → has_evidence a b ≡ by_snippets o p (has_other_evidence a b)
      given o p mine theirs =
          ap (λ (x : Option (List ℕ)). by_snippets x b.snippet (has_other_evidence a b)) mine
          ∙ ap (λ (x : Option (List ℕ)). by_snippets o x (has_other_evidence a b)) theirs
  by_two (Some s) (Some t) mine theirs false is other =
      inr (s, t, mine, theirs, λ same. true≢false (sym (ap (bytes_eq s) (sym same) ∙ text_refl s) ∙ is))
  by_two (Some s) None mine theirs bool is other =
      inl
      (ap (λ (x : Option (List ℕ)). by_snippets x b.snippet (has_other_evidence a b)) mine
      ∙ ap (λ (x : Option (List ℕ)). by_snippets (Some s) x (has_other_evidence a b)) theirs ∙ other)
  by_two None p mine theirs bool is other =
      inl (ap (λ (x : Option (List ℕ)). by_snippets x b.snippet (has_other_evidence a b)) mine ∙ other)

  vouched : Vouches → (has_evidence a b ≡ true) ⊎ AreUnlike
  vouched other = by_two a.snippet b.snippet refl refl (has_evidence a b) refl other

  by_place_text : (key : KeyParts) → key_of a PlaceText ≡ Some key → key_of b PlaceText ≡ Some key → has_evidence a b ≡ true
  unfolding text_in
  by_place_text key mine theirs =
      let m = mapped (λ snippet. place_text_parts (group_of a) snippet) a.snippet key (guarded a.guid _ key mine).1 in
      let t = mapped (λ snippet. place_text_parts (group_of b) snippet) b.snippet key (guarded b.guid _ key theirs).1 in
      ap (λ (x : Option (List ℕ)). by_snippets x b.snippet (has_other_evidence a b)) m.1
      ∙ ap (λ (x : Option (List ℕ)). by_snippets (Some m.0) x (has_other_evidence a b)) (t.1 ∙ ap Some (ap (text_in []) (t.2 ∙ sym m.2)))
      ∙ text_refl m.0

  pub evidence_at : (tier : Tier) (key : KeyParts) → key_of a tier ≡ Some key → key_of b tier ≡ Some key
      → (tier ≡ PlaceLeft) ⊎ ((has_evidence a b ≡ true) ⊎ AreUnlike)
  evidence_at Guid key mine theirs = inr (vouched (by_guids key mine theirs))
  evidence_at Same key mine theirs = inr (vouched (by_same key mine theirs))
  evidence_at SameText key mine theirs = inr (vouched (by_same_text key mine theirs))
  evidence_at (FingerprintHere name) key mine theirs = inr (vouched (by_fingerprint_here key name mine theirs))
  evidence_at (Fingerprint name) key mine theirs = inr (vouched (by_fingerprint key name mine theirs))
  evidence_at PartialHere key mine theirs = inr (vouched (by_partial_here key mine theirs))
  evidence_at PartialMoved key mine theirs = inr (vouched (by_partial_moved key mine theirs))
  evidence_at PlaceText key mine theirs = inr (inl (by_place_text key mine theirs))
  evidence_at Place key mine theirs = inr (vouched (by_place key mine theirs))
  evidence_at PlaceLeft key mine theirs = inl refl
