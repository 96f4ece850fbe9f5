-- Version 3 matches results with equal ranks, counted from the end.
use Rattle.std.proofs.Common.{◌≡◌, ℕ, ◌+◌, ◌-◌, ◌<◌, ◌≤◌, zero, suc, Bool, true, false, cond, not, ◌&&◌, List, [], ◌∷◌, Option, Some, None, drop, filter, length, nat_lt, option_map, replicate, slice_get, slice_index_or, refl, sym, ap, ◌∙◌, arith}
use Rattle.std.specs.Option.{option_map_or}
use Rattle.std.specs.Prelude.{option_and_then}
use Rattle.std.proofs.lemmas.Bool.{lt-ltb, le-ltb}
use Rattle.std.proofs.lemmas.List.{length-replicate}
use Rattle.std.proofs.lemmas.Option.{slice_get_within}
use Rattle.sarif_model.specs.declared.record.Record.{Record}
use Rattle.sarif_match.specs.declared.tier.Tier.{Tier}
use Rattle.sarif_evidence.specs.declared.version.MatchingVersion.TheVariants.{Three}
use Rattle.sarif_match.specs.Key.{key_of}
use Rattle.sarif_match.specs.KeyParts.{KeyParts, same_parts}
use Rattle.sarif_evidence.specs.Seen.{seen}
use Rattle.sarif_match.specs.Partners.{from_end, has_partner, is_taken, keyed_from, partners_after, partners_in, seen_from_end, with_key}
use Rattle.sarif_match_laws.specs.FromEnd.{ArePartnersFromEnd, IsPairedFromEnd, has_key, rank_from_end}
use Rattle.sarif_match_laws.specs.Leaving.{count_left, partners_by}
use Rattle.sarif_match.specs.Internal.Paired.{IsPairedAt, key_at, key_in_at, rank}
use Rattle.sarif_match_laws.proofs.AsMany.{count_from_end, found, has_turned, taken_turned_at}
use Rattle.sarif_match_laws.proofs.BlindSpot.{tier_of}
use Rattle.sarif_match.proofs.LawLemmas.{all_keep}
use Rattle.sarif_match_laws.proofs.NoneLeft.{there_within}
use Rattle.sarif_match.proofs.SplitLemmas.{none_is_no_some}
use Rattle.sarif_match_laws.proofs.VersionLaws.{found_from_end, partner_from_end, seen_at}

-- ---- a rank is a count

abbrev has_own : Tier → KeyParts → Record → Bool
has_own tier key r = option_map_or (λ own. same_parts own key) (key_of r tier) false

module _ (is_left : ℕ → Bool) (key : KeyParts) (i : ℕ) (tier : Tier) where
  abbrev is_ranked : ℕ × KeyParts → Bool
  is_ranked e = nat_lt e.0 i && (is_left e.0 && same_parts e.1 key)

  abbrev is_past : ℕ → Bool
  is_past q = not (nat_lt q i && is_left q)

  rank_counts : (n : ℕ) (rs : List Record) → length (filter is_ranked (keyed_from tier n rs)) ≡ count_left (has_own tier key) is_past n rs
  rank_counts n [] = refl
  rank_counts n (r ∷ rs) = by_key (key_of r tier) (rank_counts (suc n) rs)
    where
      rest : List (ℕ × KeyParts)
      rest = keyed_from tier (suc n) rs

      by_tests : (a b c : Bool) (e : ℕ × KeyParts) → length (filter is_ranked rest) ≡ count_left (has_own tier key) is_past (suc n) rs
          → length (cond (a && (b && c)) (e ∷ filter is_ranked rest) (filter is_ranked rest))
          ≡ cond (c && not (not (a && b))) 1 0 + count_left (has_own tier key) is_past (suc n) rs
      by_tests true true true e more = omega (arith, more)
      by_tests true true false e more = omega (arith, more)
      by_tests true false true e more = omega (arith, more)
      by_tests true false false e more = omega (arith, more)
      by_tests false b true e more = omega (arith, more)
      by_tests false b false e more = omega (arith, more)

      by_key : (o : Option KeyParts) → length (filter is_ranked rest) ≡ count_left (has_own tier key) is_past (suc n) rs
          → length (filter is_ranked (with_key n o rest))
          ≡ cond (option_map_or (λ own. same_parts own key) o false && not (is_past n)) 1 0 + count_left (has_own tier key) is_past (suc n) rs
      by_key None more = omega (arith, more)
      by_key (Some own) more = by_tests (nat_lt n i) (is_left n) (same_parts own key) (n, own) more

abbrev one_if : Bool → ℕ
one_if b = cond b 1 0

-- what comes first doesn't count
module _ (test : Record → Bool) (done back : ℕ → Bool) where
  cut_off : (n m : ℕ) (rs : List Record) → ((k : ℕ) → k < length rs → k < m → back (n + k) ≡ true)
      → ((k : ℕ) → k < length rs → m ≤ k → back (n + k) ≡ done (n + k)) → count_left test back n rs ≡ count_left test done (n + m) (drop m rs)
  cut_off n zero [] early late = refl
  cut_off n (suc m) [] early late = refl
  cut_off n zero (r ∷ rs) early late =
      let at : n ≡ n + 0 = omega arith in
      let here : back n ≡ done n = ap back at ∙ late 0 (omega arith) (omega arith) ∙ ap done (sym at) in
      let more : count_left test back (suc n) rs ≡ count_left test done (suc n + 0) rs =
      cut_off (suc n) zero rs (λ k lt none. absurd (omega (arith, none)))
      (λ k lt le. (let up : suc n + k ≡ n + suc k = omega arith in ap back up ∙ late (suc k) (omega (arith, lt)) (omega arith) ∙ ap done (sym up))) in
      let next : suc n + 0 ≡ suc n = omega arith in
      ap (λ (b : Bool). cond (test r && not b) 1 0 + count_left test back (suc n) rs) here
      ∙ ap (λ (k : ℕ). cond (test r && not (done n)) 1 0 + k) (more ∙ ap (λ (k : ℕ). count_left test done k rs) next)
      ∙ ap (λ (k : ℕ). count_left test done k (r ∷ rs)) at
  cut_off n (suc m) (r ∷ rs) early late =
      let at : n ≡ n + 0 = omega arith in
      let here : back n ≡ true = ap back at ∙ early 0 (omega arith) (omega arith) in
      let up : (k : ℕ) → suc n + k ≡ n + suc k = λ k. omega arith in
      let more : count_left test back (suc n) rs ≡ count_left test done (suc n + m) (drop m rs) =
      cut_off (suc n) m rs (λ k lt less. ap back (up k) ∙ early (suc k) (omega (arith, lt)) (omega (arith, less)))
      (λ k lt le. ap back (up k) ∙ late (suc k) (omega (arith, lt)) (omega (arith, le)) ∙ ap done (sym (up k))) in
      let first : one_if (test r && not (back n)) ≡ 0 = ap (λ (b : Bool). one_if (test r && not b)) here ∙ nothing (test r) in
      let rest : count_left test done (suc n + m) (drop m rs) ≡ count_left test done (n + suc m) (drop m rs) =
      ap (λ (k : ℕ). count_left test done k (drop m rs)) (up m) in
      omega (arith, first, more, rest)
    where
      nothing : (b : Bool) → one_if (b && false) ≡ 0
      nothing true = refl
      nothing false = refl

-- ---- ranks in the other direction

not_not : (b : Bool) → not (not b) ≡ b
not_not true = refl
not_not false = refl

module _ (rs : List Record) (tier : Tier) (key : KeyParts) (done back : ℕ → Bool)
    (same : (k : ℕ) → k < length rs → done (0 + k) ≡ back (from_end (length rs) k)) (i : ℕ) (within : i < length rs) where
  abbrev before_i : ℕ → Bool
  before_i q = not (nat_lt q (from_end (length rs) i) && not (back q))

  abbrev after_i : ℕ → Bool
  after_i k = before_i (from_end (length rs) k)

  early_ones : (k : ℕ) → k < length rs → k < suc i → after_i (0 + k) ≡ true
  early_ones k lt less =
      let q : ℕ = from_end (length rs) (0 + k) in
      let past : length rs - 1 - i ≤ length rs - 1 - (0 + k) = omega (arith, lt, less, within) in
      ap (λ (b : Bool). not (b && not (back q))) (le-ltb q (from_end (length rs) i) past)

  late_ones : (k : ℕ) → k < length rs → suc i ≤ k → after_i (0 + k) ≡ done (0 + k)
  late_ones k lt le =
      let q : ℕ = from_end (length rs) (0 + k) in
      let at : 0 + k ≡ k = omega arith in
      let under : length rs - 1 - (0 + k) < length rs - 1 - i = omega (arith, lt, le, within) in
      ap (λ (b : Bool). not (b && not (back q))) (lt-ltb q (from_end (length rs) i) under) ∙ not_not (back q)
      ∙ ap (λ (m : ℕ). back (from_end (length rs) m)) at ∙ sym (same k lt)

  rank_turned : rank (λ n. not (back n)) key (from_end (length rs) i) (keyed_from tier 0 (seen_from_end rs)) ≡ rank_from_end done tier key i rs
  rank_turned =
      let next : 0 + suc i ≡ suc i = omega arith in
      rank_counts (λ n. not (back n)) key (from_end (length rs) i) tier 0 (seen_from_end rs)
      ∙ sym
      (count_from_end (has_key tier key) (has_own tier key) (λ r. refl) after_i before_i 0 rs
      (λ k lt. (let at : 0 + k ≡ k = omega arith in ap after_i at)))
      ∙ cut_off (has_key tier key) done after_i 0 (suc i) rs early_ones late_ones
      ∙ ap (λ (n : ℕ). count_left (has_key tier key) done n (drop (suc i) rs)) next

-- the key of a result is its key among the others in reverse order
key_turned : (tier : Tier) (rs : List Record) (i : ℕ) → i < length rs
    → key_at tier (seen_from_end rs) (from_end (length rs) i) ≡ key_in_at Three tier rs i
key_turned tier rs i within =
    let r = there_within rs i within in
    ap (option_and_then (λ (x : Record). key_of x tier)) (seen_at rs i r.0 r.1)
    ∙ sym (ap (option_and_then (λ (x : Record). key_of (seen x) tier)) r.1)

keyed_within : (tier : Tier) (rs : List Record) (i : ℕ) (key : KeyParts) → key_in_at Three tier rs i ≡ Some key → i < length rs
keyed_within tier rs i key is = by_result (slice_get rs i) refl
  where
    by_result : (o : Option Record) → slice_get rs i ≡ o → i < length rs
    by_result None none = absurd (none_is_no_some key (sym (ap (option_and_then (λ (x : Record). key_of (seen x) tier)) none) ∙ is))
    by_result (Some r) here = slice_get_within rs i r here

-- ---- the law

module _ (current baseline : List Record) (i j : ℕ) where
  abbrev cs : List Record
  cs = seen_from_end current

  abbrev bs : List Record
  bs = seen_from_end baseline

  module _ (before : List Tier) (tier : Tier) (i_within : i < length current) (j_within : j < length baseline) where
    abbrev partners : List (Option ℕ)
    partners = partners_by before current baseline

    has_same : has_partner partners i ≡ has_partner (found current baseline before) (from_end (length current) i)
    has_same =
        let at : i ≡ 0 + i = omega arith in ap (has_partner partners) at ∙ has_turned current baseline before i i_within

    taken_same : is_taken partners j ≡ is_taken (found current baseline before) (from_end (length baseline) j)
    taken_same =
        let at : j ≡ 0 + j = omega arith in ap (is_taken partners) at ∙ taken_turned_at current baseline before j j_within

    module _ (key : KeyParts) where
      current_rank : rank (λ n. not (has_partner (found current baseline before) n)) key (from_end (length current) i) (keyed_from tier 0 cs)
          ≡ rank_from_end (has_partner partners) tier key i current
      current_rank =
          rank_turned current tier key (has_partner partners) (has_partner (found current baseline before)) (has_turned current baseline before) i i_within

      baseline_rank : rank (λ n. not (is_taken (found current baseline before) n)) key (from_end (length baseline) j) (keyed_from tier 0 bs)
          ≡ rank_from_end (is_taken partners) tier key j baseline
      baseline_rank =
          rank_turned baseline tier key (is_taken partners) (is_taken (found current baseline before)) (taken_turned_at current baseline before) j j_within

    paired_forward : IsPairedAt cs bs (found current baseline before) tier (from_end (length current) i) (from_end (length baseline) j)
        → IsPairedFromEnd current baseline partners tier i j
    paired_forward h = record {
      key = h.key;
      current_key = sym (key_turned tier current i i_within) ∙ h.current_key;
      baseline_key = sym (key_turned tier baseline j j_within) ∙ h.baseline_key;
      current_left = has_same ∙ h.current_left;
      baseline_left = taken_same ∙ h.baseline_left;
      ranks = sym (current_rank h.key) ∙ h.ranks ∙ baseline_rank h.key;
    }

    paired_back : IsPairedFromEnd current baseline partners tier i j
        → IsPairedAt cs bs (found current baseline before) tier (from_end (length current) i) (from_end (length baseline) j)
    paired_back h = record {
      key = h.key;
      current_key = key_turned tier current i i_within ∙ h.current_key;
      baseline_key = key_turned tier baseline j j_within ∙ h.baseline_key;
      current_left = sym has_same ∙ h.current_left;
      baseline_left = sym taken_same ∙ h.baseline_left;
      ranks = current_rank h.key ∙ h.ranks ∙ sym (baseline_rank h.key);
    }

  pub are_partners : slice_index_or (partners_in Three current baseline) i None ≡ Some j → ArePartnersFromEnd current baseline i j
  are_partners is =
      let t = tier_of current baseline i j is in
      let f = found_from_end current baseline i j is in
      let m = t.1.1 in
      record {
        before = m.before;
        tier = t.1.0;
        after = m.after;
        in_order = m.in_order;
        paired = paired_forward m.before t.1.0 f.0 t.0 m.paired;
      }

  pub partners_are : ArePartnersFromEnd current baseline i j → slice_index_or (partners_in Three current baseline) i None ≡ Some j
  partners_are h =
      let i_within : i < length current = keyed_within h.tier current i h.paired.key h.paired.current_key in
      let j_within : j < length baseline = keyed_within h.tier baseline j h.paired.key h.paired.baseline_key in
      let back : length baseline - 1 - (length baseline - 1 - j) ≡ j = omega (arith, j_within) in
      partner_from_end current baseline i i_within
      ∙ ap (λ (ts : List Tier). option_map (from_end (length baseline)) (slice_index_or (partners_after cs bs ts) (from_end (length current) i) None)) h.in_order
      ∙ ap (option_map (from_end (length baseline)))
      (all_keep cs bs h.before h.tier h.after (replicate (length cs) None) (from_end (length current) i) (from_end (length baseline) j)
      (length-replicate (length cs) None) (paired_back h.before h.tier i_within j_within h.paired))
      ∙ ap Some back
