-- The same results in another order are unchanged in version 3.
use Rattle.std.proofs.Common.{◌≡◌, ℕ, zero, suc, Bool, true, false, ◌||◌, ⊎_elim, List, [], ◌∷◌, Option, Some, None, bytes_eq, length, map, option_map, reverse, slice_get, sym, ap, ◌∙◌, subst}
use Rattle.std.specs.List.{AllByRecursion, list_any}
use Rattle.std.specs.Prelude.{option_and_then}
use Rattle.std.proofs.lemmas.Bool.{or_cases, or_left, or_right}
use Rattle.std.proofs.lemmas.List.{reverse-append}
use Rattle.std.proofs.lemmas.List.Folds.{list_any-append}
use Rattle.std.proofs.lemmas.Option.{same_Some, slice_get-map, slice_get_within}
use Rattle.sarif_model.specs.declared.kinds.State.TheVariants.{Unchanged}
use Rattle.sarif_model.specs.declared.record.Record.{Record}
use Rattle.sarif_match.specs.declared.tier.Tier.{Tier}
use Rattle.sarif_match.specs.declared.tier.Tier.TheVariants.{Guid, Same, SameText, FingerprintHere, Fingerprint, PartialHere, PartialMoved, PlaceText, Place, PlaceLeft}
use Rattle.sarif_evidence.specs.declared.version.MatchingVersion.TheVariants.{Three}
use Rattle.sarif_evidence.specs.Evidence.{has_evidence, state_in}
use Rattle.sarif_match.specs.Key.{group_of, key_of, value_of}
use Rattle.sarif_match.specs.KeyParts.{Group, KeyParts, fingerprint_here_parts, region_parts, text_parts}
use Rattle.sarif_match.specs.Partners.{from_end, seen_from_end}
use Rattle.sarif_evidence.specs.Seen.{seen}
use Rattle.sarif_match.specs.Tiers.{falling_names, has_name, names_of, rising_names}
use Rattle.sarif_match_laws.specs.Leaving.{AreReordered}
use Rattle.sarif_match_laws.specs.SameFinding.{AreMatchedAt, match_in}
use Rattle.sarif_match_laws.proofs.AsMany.{HasGroup, group_in, group_place, group_same_text, group_same_tier}
use Rattle.sarif_match_laws.proofs.BlindSpot.{keys_at, tier_of}
use Rattle.sarif_match_laws.proofs.EvidenceLemmas.{enough_is_unchanged}
use Rattle.sarif_match_laws.proofs.NoneLeft.{there_within}
use Rattle.sarif_match_laws.proofs.OrderLemmas.{each_matched_in}
use Rattle.sarif_match_laws.proofs.PairEvidence.{AreUnlike, evidence_at, guarded, mapped}
use Rattle.sarif_evidence.proofs.EqualLemmas.{text_refl}
use Rattle.sarif_match.proofs.SortedLemmas.{has_names}
use Rattle.sarif_match.proofs.SplitLemmas.{none_is_no_some}
use Rattle.sarif_match_laws.proofs.VersionLaws.{seen_at}
use Rattle.sarif_match_laws.specs.AnyOrder.{AreWithoutPartials, HaveOneLevel}
use Rattle.sarif_match_laws.proofs.Done.{done_after, had, seen_reordered}
use Rattle.sarif_match_laws.proofs.FirstTier.{Settles, first_tier, is_first, settled}

-- ---- the names of a result are among those of the tiers

pub any_reverse : {X : Type 0} (p : X → Bool) (xs : List X) → list_any p xs ≡ true → list_any p (reverse xs) ≡ true
any_reverse p [] is = is
any_reverse p (x ∷ xs) is =
    ap (list_any p) (reverse-append (x ∷ []) xs) ∙ list_any-append p (reverse xs) (x ∷ [])
    ∙ ⊎_elim (λ first. or_right (list_any p (reverse xs)) (p x || false) (or_left (p x) false first))
    (λ later. or_left (list_any p (reverse xs)) (p x || false) (any_reverse p xs later)) (or_cases (p x) (list_any p xs) is)

in_names : (rs : List Record) (i : ℕ) (r : Record) (m : List ℕ × List ℕ) (ms : List (List ℕ × List ℕ)) → slice_get rs i ≡ Some r → r.full ≡ m ∷ ms
    → has_name m.0 (names_of rs) ≡ true
in_names [] i r m ms here is = absurd (none_is_no_some r here)
in_names (x ∷ rs) zero r m ms here is =
    let own : x.full ≡ m ∷ ms = ap (λ (y : Record). y.full) (same_Some x r here) ∙ is in
    list_any-append (λ own. bytes_eq own m.0) (map (λ pair. pair.0) x.full) (names_of rs)
    ∙ or_left (list_any (λ own. bytes_eq own m.0) (map (λ pair. pair.0) x.full)) (has_name m.0 (names_of rs))
    (ap (λ (l : List (List ℕ × List ℕ)). list_any (λ own. bytes_eq own m.0) (map (λ pair. pair.0) l)) own
    ∙ or_left (bytes_eq m.0 m.0) (list_any (λ own. bytes_eq own m.0) (map (λ pair. pair.0) ms)) (text_refl m.0))
in_names (x ∷ rs) (suc i) r m ms here is =
    list_any-append (λ own. bytes_eq own m.0) (map (λ pair. pair.0) x.full) (names_of rs)
    ∙ or_right (list_any (λ own. bytes_eq own m.0) (map (λ pair. pair.0) x.full)) (has_name m.0 (names_of rs)) (in_names rs i r m ms here is)

-- ---- what two results with equal keys at their first tier have in common

snippet_in : Option (List ℕ) → KeyParts → Option (List ℕ)
snippet_in other (region_parts g f p s l) = s
snippet_in other (text_parts g f p s) = Some s
snippet_in other _ = other

module _ (a b : Record) (key : KeyParts) where
  record AreOneFinding : Type 0 where
    group : group_of a ≡ group_of b
    evidence : has_evidence a b ≡ true

  no_snippet : a.snippet ≡ None → AreUnlike a b → ⊥
  no_snippet none unlike = none_is_no_some unlike.0 (sym none ∙ unlike.2)

  one_snippet : a.snippet ≡ b.snippet → AreUnlike a b → ⊥
  one_snippet same unlike = unlike.4 (same_Some unlike.0 unlike.1 (sym unlike.2 ∙ same ∙ unlike.3))

  one_group : HasGroup a key → HasGroup b key → group_of a ≡ group_of b
  one_group mine theirs = sym (mine.1 (group_of a)) ∙ theirs.1 (group_of a)

  one_region : key_of a Same ≡ Some key → key_of b Same ≡ Some key → a.snippet ≡ b.snippet
  unfolding snippet_in
  one_region mine theirs =
      let m = mapped (λ region. region_parts (group_of a) a.full a.partial a.snippet region) a.region key (guarded a.guid _ key mine).1 in
      let t = mapped (λ region. region_parts (group_of b) b.full b.partial b.snippet region) b.region key (guarded b.guid _ key theirs).1 in
      ap (snippet_in None) (m.2 ∙ sym t.2)

  one_text : key_of a SameText ≡ Some key → key_of b SameText ≡ Some key → a.snippet ≡ b.snippet
  unfolding snippet_in
  one_text mine theirs =
      let m = mapped (λ snippet. text_parts (group_of a) a.full a.partial snippet) a.snippet key (guarded a.guid _ key mine).1 in
      let t = mapped (λ snippet. text_parts (group_of b) b.full b.partial snippet) b.snippet key (guarded b.guid _ key theirs).1 in
      m.1 ∙ ap (snippet_in None) (m.2 ∙ sym t.2) ∙ sym t.1

  one_value : (name : List ℕ) → key_of a (FingerprintHere name) ≡ Some key → key_of b (FingerprintHere name) ≡ Some key → group_of a ≡ group_of b
  one_value name mine theirs =
      let m = mapped (λ (value : List ℕ). fingerprint_here_parts (group_of a) name value) (value_of name a.full) key mine in
      let t = mapped (λ (value : List ℕ). fingerprint_here_parts (group_of b) name value) (value_of name b.full) key theirs in
      ap (group_in (group_of a)) (m.2 ∙ sym t.2)

  module _ (tier : Tier) (mine : key_of a tier ≡ Some key) (theirs : key_of b tier ≡ Some key) (settles : Settles a tier) where
    -- without evidence the snippets differ
    vouched : (AreUnlike a b → ⊥) → has_evidence a b ≡ true
    vouched like =
        ⊎_elim (λ last. absurd (subst (Settles a) last settles))
        (λ rest. ⊎_elim (λ is. is) (λ unlike. absurd (like unlike)) rest)
        (evidence_at a b tier key mine theirs)

  one_finding : (tier : Tier) → key_of a tier ≡ Some key → key_of b tier ≡ Some key → Settles a tier → AreOneFinding
  one_finding Guid mine theirs settles = absurd settles
  one_finding Same mine theirs settles = record {
    group = one_group (group_same_tier a key mine) (group_same_tier b key theirs);
    evidence = vouched Same mine theirs settles (one_snippet (one_region mine theirs));
  }
  one_finding SameText mine theirs settles = record {
    group = one_group (group_same_text a key mine) (group_same_text b key theirs);
    evidence = vouched SameText mine theirs settles (one_snippet (one_text mine theirs));
  }
  one_finding (FingerprintHere name) mine theirs settles = record {
    group = one_value name mine theirs;
    evidence = vouched (FingerprintHere name) mine theirs settles (no_snippet settles);
  }
  one_finding PartialHere mine theirs settles = absurd settles
  one_finding (Fingerprint name) mine theirs settles = absurd settles
  one_finding PartialMoved mine theirs settles = absurd settles
  one_finding PlaceText mine theirs settles = absurd settles
  one_finding Place mine theirs settles = record {
    group = one_group (group_place a key mine) (group_place b key theirs);
    evidence = vouched Place mine theirs settles (no_snippet settles);
  }
  one_finding PlaceLeft mine theirs settles = absurd settles

-- ---- the law

at_place : (P : Record → Type 0) (rs : List Record) (i : ℕ) (r : Record) → AllByRecursion P rs → slice_get rs i ≡ Some r → P r
at_place P [] i r all here = absurd (none_is_no_some r here)
at_place P (x ∷ rs) zero r all here = subst P (same_Some x r here) all.0
at_place P (x ∷ rs) (suc i) r all here = at_place P rs i r all.1 here

module _ (current baseline : List Record) (reordered : AreReordered current baseline) (bare : AreWithoutPartials current)
    (levels : HaveOneLevel current baseline) where
  abbrev names : List (List ℕ)
  names = falling_names (map seen current) (map seen baseline)

  names_there : (i : ℕ) (r : Record) → slice_get current i ≡ Some r → (m : List ℕ × List ℕ) (ms : List (List ℕ × List ℕ)) → (seen r).full ≡ m ∷ ms
      → list_any (λ own. bytes_eq own m.0) names ≡ true
  names_there i r here m ms is =
      any_reverse (λ own. bytes_eq own m.0) (rising_names (map seen current) (map seen baseline))
      (has_names m.0 (map seen current) (map seen baseline)
      ∙ or_left (has_name m.0 (names_of (map seen current))) (has_name m.0 (names_of (map seen baseline)))
      (in_names (map seen current) i (seen r) m ms (slice_get-map seen current i ∙ ap (option_map seen) here) is))

  settled_at : (tier : Tier) (i j : ℕ) (r : Record) (key : KeyParts) → slice_get current i ≡ Some r → key_of (seen r) tier ≡ Some key
      → AreMatchedAt current baseline tier i j → Settles (seen r) tier
  settled_at tier i j r key here is at =
      let done = done_after (seen_from_end current) (seen_from_end baseline) (seen_reordered current baseline reordered) at.before in
      let none : had at.before (seen r) ≡ false =
      sym (done.current (from_end (length current) i) (seen r) (seen_at current i r here)) ∙ at.paired.current_left in
      let own = at_place (λ (r : Record). (r.guid ≡ None) × ((seen r).partial ≡ [])) current i r bare here in
      settled names (seen r) own.0 own.1 (names_there i r here) tier
      (ap (λ (ts : List Tier). first_tier ts (seen r)) at.in_order ∙ is_first at.before tier at.after (seen r) key none is)

  pub same_unchanged : (i : ℕ) (r : Record) → slice_get current i ≡ Some r → state_in Three r (match_in Three current baseline i) ≡ Unchanged
  same_unchanged i r here =
      let found = each_matched_in Three current baseline reordered i (slice_get_within current i r here) in
      let j : ℕ = found.0 in
      let tier = tier_of current baseline i j found.1 in
      let b = there_within baseline j tier.0 in
      let keys = keys_at current baseline tier.1.0 i j r b.0 here b.1 tier.1.1 in
      let one =
      one_finding (seen r) (seen b.0) keys.0 tier.1.0 keys.1 keys.2 (settled_at tier.1.0 i j r keys.0 here keys.1 tier.1.1) in
      let level = levels i j r b.0 here b.1 one.group in
      let match_is : match_in Three current baseline i ≡ Some b.0 =
      ap (option_and_then (slice_get baseline)) found.1 ∙ b.1 in
      ap (state_in Three r) match_is
      ∙ enough_is_unchanged r b.0 (record {
        kind = level.0;
        level = level.1;
        message = ap (λ (g : Group). g.message) one.group;
        place = ap (λ (g : Group). g.place) one.group;
      }) one.evidence
