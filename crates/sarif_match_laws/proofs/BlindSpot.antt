-- An unchanged result and its match in version 3.
use Rattle.std.proofs.Common.{◌≡◌, ◌≢◌, ℕ, ◌-◌, ◌<◌, true, ◌⊎◌, inl, inr, ⊎_elim, List, Option, Some, None, length, slice_get, slice_index_or, refl, sym, ap, ◌∙◌, subst, arith}
use Rattle.std.specs.Prelude.{option_and_then}
use Rattle.sarif_model.specs.declared.record.Record.{Record}
use Rattle.sarif_model.specs.declared.kinds.State.TheVariants.{New, Unchanged}
use Rattle.sarif_match.specs.declared.tier.Tier.{Tier}
use Rattle.sarif_match.specs.declared.tier.Tier.TheVariants.{PlaceLeft}
use Rattle.sarif_evidence.specs.declared.version.MatchingVersion.TheVariants.{Three}
use Rattle.sarif_evidence.specs.Evidence.{has_evidence, state_in}
use Rattle.sarif_match.specs.Key.{key_of}
use Rattle.sarif_match.specs.KeyParts.{KeyParts}
use Rattle.sarif_match.specs.Partners.{from_end, partners_after, partners_in, seen_from_end}
use Rattle.sarif_evidence.specs.Seen.{seen}
use Rattle.sarif_match.specs.Tiers.{tiers_in}
use Rattle.sarif_match.specs.Internal.Paired.{IsPairedAt}
use Rattle.sarif_match_laws.specs.SameFinding.{AreMatchedAt, AreTheSame, HaveUnlikeSnippets, match_in}
use Rattle.sarif_match_laws.proofs.EvidenceLemmas.{unchanged_has_other, unchanged_has_snippet, unchanged_is_same}
use Rattle.sarif_match.proofs.LawLemmas.{paired_in, partner_below}
use Rattle.sarif_match_laws.proofs.PairEvidence.{evidence_at, has_tool}
use Rattle.sarif_match.proofs.TurnedLemmas.{length-seen}
use Rattle.sarif_match_laws.proofs.VersionLaws.{found_from_end, seen_at}

new_is_not_unchanged : New ≡ Unchanged → ⊥
new_is_not_unchanged e = cc

module _ (current baseline : List Record) where
  abbrev cs : List Record
  cs = seen_from_end current

  abbrev bs : List Record
  bs = seen_from_end baseline

  -- a match has its tier
  pub tier_of : (i j : ℕ) → slice_index_or (partners_in Three current baseline) i None ≡ Some j
      → (j < length baseline) × ((tier : Tier) × AreMatchedAt current baseline tier i j)
  tier_of i j is =
      let f = found_from_end current baseline i j is in
      let t : ℕ = f.1.0 in
      let counted : length bs ≡ length baseline = length-seen baseline in
      let below : t < length bs = partner_below cs bs (tiers_in Three current baseline) (from_end (length current) i) t f.1.1 in
      let turned_is : length baseline - 1 - t ≡ j = f.1.2 in
      let back : t ≡ length baseline - 1 - j = omega (arith, counted, below, turned_is) in
      let h = paired_in cs bs (tiers_in Three current baseline) (from_end (length current) i) t f.1.1 in (
        omega (arith, counted, below, turned_is),
        (
          h.tier,
          record {
            before = h.before;
            after = h.after;
            in_order = h.split;
            paired =
                subst (λ (n : ℕ). IsPairedAt cs bs (partners_after cs bs h.before) h.tier (from_end (length current) i) n) back h.paired;
          },
        ),
      )

  -- the two have equal keys at their tier
  pub keys_at : (tier : Tier) (i j : ℕ) (r b : Record) → slice_get current i ≡ Some r → slice_get baseline j ≡ Some b → AreMatchedAt current baseline tier i j
      → (key : KeyParts) × (key_of (seen r) tier ≡ Some key) × (key_of (seen b) tier ≡ Some key)
  keys_at tier i j r b mine theirs h = (
    h.paired.key,
    sym (ap (option_and_then (λ (x : Record). key_of x tier)) (seen_at current i r mine)) ∙ h.paired.current_key,
    sym (ap (option_and_then (λ (x : Record). key_of x tier)) (seen_at baseline j b theirs)) ∙ h.paired.baseline_key,
  )

  pub evidence_or_last : (tier : Tier) (i j : ℕ) (r b : Record) → slice_get current i ≡ Some r → slice_get baseline j ≡ Some b
      → AreMatchedAt current baseline tier i j → (tier ≡ PlaceLeft) ⊎ ((has_evidence (seen r) (seen b) ≡ true) ⊎ HaveUnlikeSnippets r b)
  evidence_or_last tier i j r b mine theirs h =
      let k = keys_at tier i j r b mine theirs h in
      ⊎_elim (λ last. inl last)
      (λ rest. ⊎_elim (λ evidence. inr (inl evidence))
      (λ u. inr (inr (record { snippet = u.0; other = u.1; current_is = u.2; partner_is = u.3; unlike = u.4 }))) rest)
      (evidence_at (seen r) (seen b) tier k.0 k.1 k.2)

  module _ (i : ℕ) (r : Record) (here : slice_get current i ≡ Some r) where
    same_as : (j : ℕ) (b : Record) → slice_index_or (partners_in Three current baseline) i None ≡ Some j → slice_get baseline j ≡ Some b
        → state_in Three r (Some b) ≡ Unchanged → AreTheSame r b
    same_as j b partner theirs is =
        let t = tier_of i j partner in
        let k = keys_at t.1.0 i j r b here theirs t.1.1 in
        record {
          tool = sym (has_tool (seen r) t.1.0 k.0 k.1) ∙ has_tool (seen b) t.1.0 k.0 k.2;
          unchanged = unchanged_is_same r b is;
          snippets = λ snippet other. unchanged_has_snippet r b snippet other is;
          evidence = unchanged_has_other r b is;
        }

    -- an unchanged result has a match that is the same
    pub unchanged_has_match : state_in Three r (match_in Three current baseline i) ≡ Unchanged
        → (j : ℕ) × (b : Record) × (slice_index_or (partners_in Three current baseline) i None ≡ Some j)
        × (slice_get baseline j ≡ Some b) × AreTheSame r b
    unchanged_has_match is = by_partner (slice_index_or (partners_in Three current baseline) i None) refl
      where
        by_record : (j : ℕ) → slice_index_or (partners_in Three current baseline) i None ≡ Some j → (o : Option Record) → slice_get baseline j ≡ o
            → (j : ℕ) × (b : Record) × (slice_index_or (partners_in Three current baseline) i None ≡ Some j)
            × (slice_get baseline j ≡ Some b) × AreTheSame r b
        by_record j partner None none =
            absurd (new_is_not_unchanged
            (sym (ap (λ (o : Option ℕ). state_in Three r (option_and_then (slice_get baseline) o)) partner
            ∙ ap (state_in Three r) none) ∙ is))
        by_record j partner (Some b) theirs = (
          j,
          b,
          partner,
          theirs,
          same_as j b partner theirs
              (sym (ap (λ (o : Option ℕ). state_in Three r (option_and_then (slice_get baseline) o)) partner
              ∙ ap (state_in Three r) theirs) ∙ is),
        )

        by_partner : (o : Option ℕ) → slice_index_or (partners_in Three current baseline) i None ≡ o
            → (j : ℕ) × (b : Record) × (slice_index_or (partners_in Three current baseline) i None ≡ Some j)
            × (slice_get baseline j ≡ Some b) × AreTheSame r b
        by_partner None none =
            absurd (new_is_not_unchanged
            (sym (ap (λ (o : Option ℕ). state_in Three r (option_and_then (slice_get baseline) o)) none) ∙ is))
        by_partner (Some j) partner = by_record j partner (slice_get baseline j) refl

    -- a result whose snippet no baseline result of its tool, place and message has isn't unchanged
    pub new_snippet_is_seen : (snippet : List ℕ) → (seen r).snippet ≡ Some snippet
        → ((j : ℕ) (b : Record) → slice_get baseline j ≡ Some b → b.tool ≡ r.tool → b.place ≡ r.place → b.message ≡ r.message
        → (other : List ℕ) × ((seen b).snippet ≡ Some other) × (snippet ≢ other))
        → state_in Three r (match_in Three current baseline i) ≡ Unchanged → ⊥
    new_snippet_is_seen snippet own others is =
        let m = unchanged_has_match is in
        let same = m.4 in
        let o = others m.0 m.1 m.3 (sym same.tool) (sym same.unchanged.place) (sym same.unchanged.message) in
        o.2 (same.snippets snippet o.0 own o.1)
