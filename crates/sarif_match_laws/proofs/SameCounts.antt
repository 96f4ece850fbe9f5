-- Results without GUIDs and fingerprints: in any version and with any tiers, as many of each group are left.
use Rattle.std.proofs.Common.{◌≡◌, ℕ, ◌+◌, zero, suc, Bool, true, false, cond, not, ◌&&◌, List, [], ◌∷◌, ◌++◌, Option, Some, None, is_some, length, map, option_map, replicate, reverse, slice_get, refl, sym, ap, ◌∙◌, subst, arith, append_assoc}
use Rattle.std.specs.List.{AllByRecursion}
use Rattle.std.specs.Prelude.{option_and_then}
use Rattle.std.proofs.lemmas.Bool.{and_parts}
use Rattle.std.proofs.lemmas.List.{reverse-append}
use Rattle.std.proofs.lemmas.Option.{same_Some}
use Rattle.sarif_model.specs.declared.record.Record.{Record}
use Rattle.sarif_match.specs.declared.tier.Tier.{Tier}
use Rattle.sarif_match.specs.declared.tier.Tier.TheVariants.{Guid, Same, SameText, FingerprintHere, Fingerprint, PartialHere, PartialMoved, PlaceText, Place, PlaceLeft}
use Rattle.sarif_evidence.specs.declared.version.MatchingVersion.TheVariants.{Two, Three}
use Rattle.sarif_match.specs.Key.{group_of, key_of, value_of}
use Rattle.sarif_evidence.specs.EqualParts.{is_empty}
use Rattle.sarif_match.specs.KeyParts.{Group, guid_parts, fingerprint_parts, partial_here_parts, partial_moved_parts, place_parts, fingerprint_here_parts, place_left_parts}
use Rattle.sarif_match.specs.Partners.{has_partner, is_taken, partners_after, partners_in, partners_of, seen_from_end}
use Rattle.sarif_evidence.specs.Seen.{filled, seen}
use Rattle.sarif_match.specs.Tiers.{falling_names, tiers_in, tiers_of}
use Rattle.sarif_match_laws.specs.Leaving.{AreWithoutNames, HasNoNames, LeaveAsMany, count_left, is_of, partners_by, without_text}
use Rattle.sarif_match.specs.Internal.Paired.{key_at}
use Rattle.sarif_match_laws.proofs.AsMany.{IsWithin, Moved, absent_count, absent_turned, as_many, count_from_end, found, found_at, group_place, group_place_left, group_place_text, group_same_text, group_same_tier, has_last_key, is_spare, moved, new_turned, one_count, turned_many, within_of}
use Rattle.sarif_match_laws.proofs.CountLemmas.{count_alike}
use Rattle.sarif_match.proofs.PartsLemmas.{group_same}
use Rattle.sarif_match.proofs.PutLemmas.{nobody_taken}
use Rattle.sarif_match.proofs.SplitLemmas.{none_is_no_some}
use Rattle.sarif_match_laws.proofs.VersionLaws.{but_last, last_is_group}

-- ---- lists of such results

abbrev IsBare : List Record → Type 0
IsBare rs = (i : ℕ) (r : Record) → slice_get rs i ≡ Some r → HasNoNames r

bare_of : (rs : List Record) → AreWithoutNames rs → IsBare rs
bare_of [] all i r is = absurd (none_is_no_some r is)
bare_of (x ∷ rs) all zero r is = subst HasNoNames (same_Some x r is) all.0
bare_of (x ∷ rs) all (suc i) r is = bare_of rs all.1 i r is

all_push : (xs : List Record) (y : Record) → AreWithoutNames xs → HasNoNames y → AreWithoutNames (xs ++ (y ∷ []))
all_push [] y all one = (one, tt)
all_push (x ∷ xs) y all one = (all.0, all_push xs y all.1 one)

all_seen : (rs : List Record) → AreWithoutNames rs → AreWithoutNames (seen_from_end rs)
all_seen [] all = tt
all_seen (r ∷ rs) all =
    subst AreWithoutNames (sym (reverse-append (seen r ∷ []) (map seen rs)))
    (all_push (reverse (map seen rs)) (seen r) (all_seen rs all.1) (all.0.0, ap filled all.0.1, ap filled all.0.2))

all_plain : (rs : List Record) → AreWithoutNames rs → AreWithoutNames (map without_text rs)
all_plain [] all = tt
all_plain (r ∷ rs) all = (all.0, all_plain rs all.1)

-- ---- their tiers

module _ (cs bs : List Record) (bare : IsBare cs) where
  never : (tier : Tier) → ((r : Record) → HasNoNames r → key_of r tier ≡ None) → IsWithin cs bs tier
  never tier none i j key c_is b_is =
      let c = found_at tier cs i key c_is in
      absurd (none_is_no_some key (sym (none c.0 (bare i c.0 c.1)) ∙ c.2))

  within_bare : (tier : Tier) → IsWithin cs bs tier
  within_bare Guid = never Guid (λ r no_names. ap (option_map (λ (guid : ℕ). guid_parts r.tool guid)) no_names.0)
  within_bare (Fingerprint name) =
      never (Fingerprint name)
      (λ r no_names. ap (λ (ms : List (List ℕ × List ℕ)). option_map (λ (v : List ℕ). fingerprint_parts r.tool name v) (value_of name ms)) no_names.1)
  within_bare (FingerprintHere name) =
      never (FingerprintHere name)
      (λ r no_names. ap (λ (ms : List (List ℕ × List ℕ)). option_map (λ (v : List ℕ). fingerprint_here_parts (group_of r) name v) (value_of name ms)) no_names.1)
  within_bare PartialHere =
      never PartialHere
      (λ r no_names. ap (λ (ms : List (List ℕ × List ℕ)). cond (is_empty ms) None (Some (partial_here_parts r.tool r.rule_id r.place ms))) no_names.2)
  within_bare PartialMoved =
      never PartialMoved
      (λ r no_names. ap (λ (ms : List (List ℕ × List ℕ)). cond (is_empty ms) None (Some (partial_moved_parts r.tool r.rule_id ms))) no_names.2)
  within_bare Same = within_of cs bs Same group_same_tier
  within_bare SameText = within_of cs bs SameText group_same_text
  within_bare PlaceText = within_of cs bs PlaceText group_place_text
  within_bare Place = within_of cs bs Place group_place
  within_bare PlaceLeft = within_of cs bs PlaceLeft group_place_left

  all_within : (tiers : List Tier) → AllByRecursion (IsWithin cs bs) tiers
  all_within [] = tt
  all_within (t ∷ ts) = (within_bare t, all_within ts)

place_key : (cs bs : List Record) (group : Group) (rs : List Record) → IsBare rs → (m : ℕ) (r : Record) → slice_get rs m ≡ Some r
    → is_spare cs bs group r ≡ true → key_at Place rs m ≡ Some (place_parts group.tool group.rule_id group.place group.message)
place_key cs bs group rs bare m r here is =
    let no_names = bare m r here in
    let both = and_parts (not (is_some r.guid)) (is_of group r) is in
    let unnamed : not (is_some r.guid) && (is_empty r.full && is_empty r.partial) ≡ true =
    λ i. not (is_some (no_names.0 i)) && (is_empty (no_names.1 i) && is_empty (no_names.2 i)) in
    ap (option_and_then (λ (x : Record). key_of x Place)) here
    ∙ ap (λ (b : Bool). cond b (Some (place_parts r.tool r.rule_id r.place r.message)) None) unnamed
    ∙ ap (λ (g : Group). Some (place_parts g.tool g.rule_id g.place g.message)) (group_same (group_of r) group both.1)

-- ---- all results of a group

abbrev total : (Record → Bool) → List Record → ℕ
total test rs = count_left test (λ _. false) 0 rs

nobody_has : (n q : ℕ) → has_partner (replicate n None) q ≡ false
nobody_has zero q = refl
nobody_has (suc n) zero = refl
nobody_has (suc n) (suc q) = nobody_has n q

none_matched : (test : Record → Bool) (n : ℕ) (rs : List Record) → count_left test (has_partner (replicate n None)) 0 rs ≡ total test rs
none_matched test n rs = count_alike test (λ _. false) (has_partner (replicate n None)) 0 rs (λ q le. nobody_has n q)

none_taken : (test : Record → Bool) (n : ℕ) (rs : List Record) → count_left test (is_taken (replicate n None)) 0 rs ≡ total test rs
none_taken test n rs = count_alike test (λ _. false) (is_taken (replicate n None)) 0 rs (λ q le. nobody_taken n q)

abbrev one_if : Bool → ℕ
one_if b = cond b 1 0

count_plain : (test : Record → Bool) → ((r : Record) → test (without_text r) ≡ test r) → (done : ℕ → Bool) (n : ℕ) (rs : List Record)
    → count_left test done n (map without_text rs) ≡ count_left test done n rs
count_plain test same done n [] = refl
count_plain test same done n (r ∷ rs) =
    let more = count_plain test same done (suc n) rs in
    let first : one_if (test (without_text r) && not (done n)) ≡ one_if (test r && not (done n)) = ap (λ (b : Bool). one_if (b && not (done n))) (same r) in
    omega (arith, first, more)

total_seen : (test : Record → Bool) → ((r : Record) → test (seen r) ≡ test r) → (rs : List Record) → total test (seen_from_end rs) ≡ total test rs
total_seen test same rs = sym (count_from_end test test same (λ _. false) (λ _. false) 0 rs (λ k lt. refl))

-- ---- two matchings of as many results

module _ (group : Group) (cs bs cs' bs' : List Record) (to to' : List (Option ℕ)) where
  abbrev spare : Record → Bool
  spare = is_spare cs bs group

  module _ (spare_currents : total spare cs ≡ total spare cs') (spare_baselines : total spare bs ≡ total spare bs')
      (one : Moved cs bs group (replicate (length cs) None) to) (other : Moved cs' bs' group (replicate (length cs') None) to') where
    abbrev x : ℕ
    x = count_left spare (has_partner to) 0 cs

    abbrev y : ℕ
    y = count_left spare (is_taken to) 0 bs

    abbrev x' : ℕ
    x' = count_left spare (has_partner to') 0 cs'

    abbrev y' : ℕ
    y' = count_left spare (is_taken to') 0 bs'

    first : total spare cs + y ≡ x + total spare bs
    first = omega (arith, one.spares, none_matched spare (length cs) cs, none_taken spare (length cs) bs)

    second : total spare cs + y' ≡ x' + total spare bs
    second =
        omega (arith, other.spares, none_matched spare (length cs') cs', none_taken spare (length cs') bs', spare_currents, spare_baselines)

    new_same : total (is_of group) cs ≡ total (is_of group) cs'
        → count_left (is_of group) (has_partner to) 0 cs ≡ count_left (is_of group) (has_partner to') 0 cs'
    new_same all =
        let a : total (is_of group) cs + y ≡ count_left (is_of group) (has_partner to) 0 cs + total spare bs =
        omega (arith, one.current, none_matched (is_of group) (length cs) cs, none_taken spare (length cs) bs) in
        let b : total (is_of group) cs + y' ≡ count_left (is_of group) (has_partner to') 0 cs' + total spare bs =
        omega (arith, other.current, none_matched (is_of group) (length cs') cs', none_taken spare (length cs') bs', all, spare_baselines) in
        one_count cs bs (total spare cs) (total spare bs) (total (is_of group) cs) (count_left (is_of group) (has_partner to) 0 cs) x y 0 x' y'
        (count_left (is_of group) (has_partner to') 0 cs') first a second b one.ended other.ended

    absent_same : total (is_of group) bs ≡ total (is_of group) bs'
        → count_left (is_of group) (is_taken to) 0 bs ≡ count_left (is_of group) (is_taken to') 0 bs'
    absent_same all =
        let a : total spare cs + count_left (is_of group) (is_taken to) 0 bs ≡ x + total (is_of group) bs =
        omega (arith, one.baseline, none_matched spare (length cs) cs, none_taken (is_of group) (length cs) bs) in
        let b : total spare cs + count_left (is_of group) (is_taken to') 0 bs' ≡ x' + total (is_of group) bs =
        omega (arith, other.baseline, none_matched spare (length cs') cs', none_taken (is_of group) (length cs') bs', all, spare_currents) in
        absent_count cs bs (total spare cs) (total spare bs) (total (is_of group) bs) x y (count_left (is_of group) (is_taken to) 0 bs) x' y'
        (count_left (is_of group) (is_taken to') 0 bs') first a second b one.ended other.ended

-- ---- the laws

module _ (current baseline : List Record) (currents : AreWithoutNames current) (baselines : AreWithoutNames baseline) where
  abbrev cs : List Record
  cs = seen_from_end current

  abbrev bs : List Record
  bs = seen_from_end baseline

  in_three : tiers_in Three current baseline ≡ but_last current baseline (falling_names (map seen current) (map seen baseline)) ++ (PlaceLeft ∷ [])
  in_three = last_is_group current baseline (falling_names (map seen current) (map seen baseline))

  -- any tiers before the last
  pub as_many_by : (tiers : List Tier) → LeaveAsMany current baseline (partners_in Three current baseline)
      (partners_by (tiers ++ (PlaceLeft ∷ [])) current baseline)
  as_many_by tiers =
      let bare = bare_of cs (all_seen current currents) in
      let first : List Tier = but_last current baseline (falling_names (map seen current) (map seen baseline)) in
      turned_many current baseline (tiers_in Three current baseline) (tiers ++ (PlaceLeft ∷ []))
      (subst (λ (ts : List Tier). LeaveAsMany cs bs (found current baseline ts) (found current baseline (tiers ++ (PlaceLeft ∷ [])))) (sym in_three)
      (as_many cs bs [] first tiers (all_within cs bs bare (first ++ (PlaceLeft ∷ []))) (all_within cs bs bare (tiers ++ (PlaceLeft ∷ [])))))

  -- what version 3 leaves
  moved_three : (group : Group) → Moved cs bs group (replicate (length cs) None) (found current baseline (tiers_in Three current baseline))
  moved_three group =
      let bare = bare_of cs (all_seen current currents) in
      let first : List Tier = but_last current baseline (falling_names (map seen current) (map seen baseline)) in
      subst (λ (ts : List Tier). Moved cs bs group (replicate (length cs) None) (found current baseline ts)) (sym in_three)
      (moved cs bs group PlaceLeft (place_left_parts group) (has_last_key cs bs group cs) (has_last_key cs bs group bs) [] first
      (all_within cs bs bare (first ++ (PlaceLeft ∷ []))))

  -- what version 2 leaves
  moved_two : (group : Group) → Moved current baseline group (replicate (length current) None) (partners_of current baseline)
  moved_two group =
      let names = map Fingerprint (falling_names current baseline) in
      let first : List Tier = Guid ∷ (names ++ (PartialHere ∷ (PartialMoved ∷ []))) in
      let split : tiers_of current baseline ≡ first ++ (Place ∷ []) =
      ap (λ (ts : List Tier). Guid ∷ ts) (sym (append_assoc names (PartialHere ∷ (PartialMoved ∷ [])) (Place ∷ []))) in
      let bare = bare_of current currents in
      subst (λ (ts : List Tier). Moved current baseline group (replicate (length current) None) (partners_after current baseline ts)) (sym split)
      (moved current baseline group Place (place_parts group.tool group.rule_id group.place group.message)
      (place_key current baseline group current bare) (place_key current baseline group baseline (bare_of baseline baselines)) [] first
      (all_within current baseline bare (first ++ (Place ∷ []))))

  pub as_many_in_two : LeaveAsMany current baseline (partners_in Three current baseline) (partners_in Two current baseline)
  as_many_in_two =
      let to : List (Option ℕ) = found current baseline (tiers_in Three current baseline) in
      record {
        new = λ group.
            new_turned current baseline (tiers_in Three current baseline) group
            ∙ new_same group cs bs current baseline to (partners_of current baseline)
            (total_seen (is_spare cs bs group) (λ r. refl) current) (total_seen (is_spare cs bs group) (λ r. refl) baseline)
            (moved_three group) (moved_two group) (total_seen (is_of group) (λ r. refl) current);
        absent = λ group.
            absent_turned current baseline (tiers_in Three current baseline) group
            ∙ absent_same group cs bs current baseline to (partners_of current baseline)
            (total_seen (is_spare cs bs group) (λ r. refl) current) (total_seen (is_spare cs bs group) (λ r. refl) baseline)
            (moved_three group) (moved_two group) (total_seen (is_of group) (λ r. refl) baseline);
      }

module _ (current baseline : List Record) (currents : AreWithoutNames current) (baselines : AreWithoutNames baseline) where
  abbrev plain_cs : List Record
  plain_cs = map without_text current

  abbrev plain_bs : List Record
  plain_bs = map without_text baseline

  abbrev ends_at : List Record → List Record → List (Option ℕ)
  ends_at rs qs = found rs qs (tiers_in Three rs qs)

  total_plain : (test : Record → Bool) → ((r : Record) → test (seen r) ≡ test r) → ((r : Record) → test (without_text r) ≡ test r)
      → (rs : List Record) → total test (seen_from_end rs) ≡ total test (seen_from_end (map without_text rs))
  total_plain test same plain rs =
      total_seen test same rs ∙ sym (count_plain test plain (λ _. false) 0 rs) ∙ sym (total_seen test same (map without_text rs))

  pub as_many_without_text : LeaveAsMany current baseline (partners_in Three current baseline) (partners_in Three plain_cs plain_bs)
  as_many_without_text =
      let cs = seen_from_end current in
      let bs = seen_from_end baseline in
      let one = moved_three current baseline currents baselines in
      let other = moved_three plain_cs plain_bs (all_plain current currents) (all_plain baseline baselines) in
      record {
        new = λ group.
            new_turned current baseline (tiers_in Three current baseline) group
            ∙ new_same group cs bs (seen_from_end plain_cs) (seen_from_end plain_bs) (ends_at current baseline) (ends_at plain_cs plain_bs)
            (total_plain (is_spare cs bs group) (λ r. refl) (λ r. refl) current)
            (total_plain (is_spare cs bs group) (λ r. refl) (λ r. refl) baseline) (one group) (other group)
            (total_plain (is_of group) (λ r. refl) (λ r. refl) current)
            ∙ sym (new_turned plain_cs plain_bs (tiers_in Three plain_cs plain_bs) group)
            ∙ count_plain (is_of group) (λ r. refl) (has_partner (partners_in Three plain_cs plain_bs)) 0 current;
        absent = λ group.
            absent_turned current baseline (tiers_in Three current baseline) group
            ∙ absent_same group cs bs (seen_from_end plain_cs) (seen_from_end plain_bs) (ends_at current baseline) (ends_at plain_cs plain_bs)
            (total_plain (is_spare cs bs group) (λ r. refl) (λ r. refl) current)
            (total_plain (is_spare cs bs group) (λ r. refl) (λ r. refl) baseline) (one group) (other group)
            (total_plain (is_of group) (λ r. refl) (λ r. refl) baseline)
            ∙ sym (absent_turned plain_cs plain_bs (tiers_in Three plain_cs plain_bs) group)
            ∙ count_plain (is_of group) (λ r. refl) (is_taken (partners_in Three plain_cs plain_bs)) 0 baseline;
      }
