-- Each result of a list matches one of the same list in another order.
use Rattle.std.proofs.Common.{◌≡◌, ℕ, ◌<◌, zero, suc, Bool, true, false, cond, not, ◌&&◌, ◌||◌, ⊎_elim, List, [], ◌∷◌, ◌++◌, Option, Some, None, bytes_eq, is_some, length, map, option_map, reverse, slice_get, slice_index_or, refl, sym, ap, ◌∙◌, arith}
use Rattle.std.specs.List.{list_any}
use Rattle.std.proofs.lemmas.Bool.{false≢true, ne_eqb, or_cases}
use Rattle.std.proofs.lemmas.List.{reverse-append}
use Rattle.std.proofs.lemmas.List.Folds.{list_any-append}
use Rattle.std.proofs.lemmas.Option.{same_Some}
use Rattle.sarif_model.specs.declared.record.Record.{Record}
use Rattle.sarif_match.specs.declared.tier.Tier.{Tier}
use Rattle.sarif_match.specs.declared.tier.Tier.TheVariants.{Guid, Fingerprint, PartialHere, PartialMoved, Place, PlaceLeft}
use Rattle.sarif_evidence.specs.declared.version.MatchingVersion.{MatchingVersion}
use Rattle.sarif_evidence.specs.declared.version.MatchingVersion.TheVariants.{Two, Three}
use Rattle.sarif_match.specs.Key.{group_of, key_of, value_of}
use Rattle.sarif_evidence.specs.EqualParts.{is_empty}
use Rattle.sarif_match.specs.KeyParts.{fingerprint_parts, guid_parts, partial_here_parts, place_left_parts, place_parts}
use Rattle.sarif_match.specs.Partners.{from_end, has_partner, partners_after, partners_in, partners_of, seen_from_end}
use Rattle.sarif_evidence.specs.Seen.{seen}
use Rattle.sarif_match.specs.Tiers.{falling_names, has_name, names_of, rising_names, tiers_in, tiers_of}
use Rattle.sarif_match_laws.specs.Leaving.{AreReordered}
use Rattle.sarif_match_laws.proofs.NoneLeft.{there_within}
use Rattle.sarif_evidence.proofs.EqualLemmas.{text_refl, same_text}
use Rattle.sarif_match.proofs.SortedLemmas.{has_names}
use Rattle.sarif_match.proofs.SplitLemmas.{none_is_no_some}
use Rattle.sarif_match_laws.proofs.Done.{done_after, had, seen_reordered, some_at, total, total_count}
use Rattle.sarif_match_laws.proofs.VersionLaws.{but_last, last_is_group, partner_from_end, seen_at}

-- a result with a key at one of the tiers is matched
matched : (cs bs : List Record) (reordered : (test : Record → Bool) → total test cs ≡ total test bs) (ts : List Tier) (i : ℕ) (r : Record)
    → slice_get cs i ≡ Some r → had ts r ≡ true → has_partner (partners_after cs bs ts) i ≡ true
matched cs bs reordered ts i r here is = (done_after cs bs reordered ts).current i r here ∙ is

-- ---- version 3

module _ (current baseline : List Record) (reordered : AreReordered current baseline) where
  abbrev names : List (List ℕ)
  names = falling_names (map seen current) (map seen baseline)

  -- each result has a key at the first or the last tier
  has_one : (r : Record) → had (but_last current baseline names ++ (PlaceLeft ∷ [])) r ≡ true
  has_one r = by_guid r.guid refl
    where
      or_true : (b : Bool) → b || true ≡ true
      or_true true = refl
      or_true false = refl

      by_guid : (o : Option ℕ) → r.guid ≡ o → had (but_last current baseline names ++ (PlaceLeft ∷ [])) r ≡ true
      by_guid (Some guid) is =
          let first : is_some (key_of r Guid) ≡ true = ap (λ (o : Option ℕ). is_some (option_map (λ (g : ℕ). guid_parts r.tool g) o)) is in
          ap (λ (b : Bool). b || had (tail_of (but_last current baseline names ++ (PlaceLeft ∷ []))) r) first
        where
          tail_of : List Tier → List Tier
          tail_of [] = []
          tail_of (t ∷ ts) = ts
      by_guid None is =
          let last : is_some (key_of r PlaceLeft) ≡ true =
          ap (λ (o : Option ℕ). is_some (cond (is_some o) None (Some (place_left_parts (group_of r))))) is in
          list_any-append (λ (t : Tier). is_some (key_of r t)) (but_last current baseline names) (PlaceLeft ∷ [])
          ∙ ap (λ (b : Bool). had (but_last current baseline names) r || (b || false)) last ∙ or_true (had (but_last current baseline names) r)

  pub each_matched : (i : ℕ) → i < length current → (j : ℕ) × (slice_index_or (partners_in Three current baseline) i None ≡ Some j)
  each_matched i within =
      let cs = seen_from_end current in
      let bs = seen_from_end baseline in
      let r = there_within current i within in
      let in_order = last_is_group current baseline names in
      let is : has_partner (partners_after cs bs (tiers_in Three current baseline)) (from_end (length current) i) ≡ true =
      ap (λ (ts : List Tier). has_partner (partners_after cs bs ts) (from_end (length current) i)) in_order
      ∙ matched cs bs (seen_reordered current baseline reordered) (but_last current baseline names ++ (PlaceLeft ∷ [])) (from_end (length current) i) (seen r.0)
      (seen_at current i r.0 r.1) (has_one (seen r.0)) in
      let found = some_at (slice_index_or (partners_after cs bs (tiers_in Three current baseline)) (from_end (length current) i) None) is in
      (from_end (length baseline) found.0, partner_from_end current baseline i within ∙ ap (option_map (from_end (length baseline))) found.1)

-- ---- version 2

or_true : (b : Bool) → b || true ≡ true
or_true true = refl
or_true false = refl

or_first : (a b : Bool) → a ≡ true → a || b ≡ true
or_first true b is = refl
or_first false b is = absurd (false≢true is)

or_second : (a b : Bool) → b ≡ true → a || b ≡ true
or_second a b is = ap (λ (c : Bool). a || c) is ∙ or_true a

any_reverse : {X : Type 0} (p : X → Bool) (xs : List X) → list_any p xs ≡ true → list_any p (reverse xs) ≡ true
any_reverse p [] is = is
any_reverse p (x ∷ xs) is =
    ap (list_any p) (reverse-append (x ∷ []) xs) ∙ list_any-append p (reverse xs) (x ∷ [])
    ∙ ⊎_elim (λ first. or_second (list_any p (reverse xs)) (p x || false) (or_first (p x) false first))
    (λ later. or_first (list_any p (reverse xs)) (p x || false) (any_reverse p xs later)) (or_cases (p x) (list_any p xs) is)

in_names : (rs : List Record) (i : ℕ) (r : Record) (m : List ℕ × List ℕ) (ms : List (List ℕ × List ℕ)) → slice_get rs i ≡ Some r → r.full ≡ m ∷ ms
    → has_name m.0 (names_of rs) ≡ true
in_names [] i r m ms here is = absurd (none_is_no_some r here)
in_names (x ∷ rs) zero r m ms here is =
    let own : x.full ≡ m ∷ ms = ap (λ (y : Record). y.full) (same_Some x r here) ∙ is in
    list_any-append (λ own. bytes_eq own m.0) (map (λ pair. pair.0) x.full) (names_of rs)
    ∙ or_first (list_any (λ own. bytes_eq own m.0) (map (λ pair. pair.0) x.full)) (has_name m.0 (names_of rs))
    (ap (λ (l : List (List ℕ × List ℕ)). list_any (λ own. bytes_eq own m.0) (map (λ pair. pair.0) l)) own
    ∙ or_first (bytes_eq m.0 m.0) (list_any (λ own. bytes_eq own m.0) (map (λ pair. pair.0) ms)) (text_refl m.0))
in_names (x ∷ rs) (suc i) r m ms here is =
    list_any-append (λ own. bytes_eq own m.0) (map (λ pair. pair.0) x.full) (names_of rs)
    ∙ or_second (list_any (λ own. bytes_eq own m.0) (map (λ pair. pair.0) x.full)) (has_name m.0 (names_of rs)) (in_names rs i r m ms here is)

had_name : (r : Record) (name value : List ℕ) (ns : List (List ℕ)) → list_any (λ own. bytes_eq own name) ns ≡ true
    → value_of name r.full ≡ Some value → had (map Fingerprint ns) r ≡ true
had_name r name value [] is found = absurd (false≢true is)
had_name r name value (n ∷ ns) is found =
    ⊎_elim
    (λ same. or_first (is_some (key_of r (Fingerprint n))) (had (map Fingerprint ns) r)
    (ap (λ (o : Option (List ℕ)). is_some (option_map (λ (v : List ℕ). fingerprint_parts r.tool n v) o))
    (ap (λ (l : List ℕ). value_of l r.full) (same_text n name same) ∙ found)))
    (λ later. or_second (is_some (key_of r (Fingerprint n))) (had (map Fingerprint ns) r) (had_name r name value ns later found))
    (or_cases (bytes_eq n name) (list_any (λ own. bytes_eq own name) ns) is)

module _ (current baseline : List Record) where
  has_one_in_two : (i : ℕ) (r : Record) → slice_get current i ≡ Some r → had (tiers_of current baseline) r ≡ true
  has_one_in_two i r here = by_guid r.guid refl r.full refl r.partial refl
    where
      fs : List Tier
      fs = map Fingerprint (falling_names current baseline)

      others : List Tier
      others = PartialHere ∷ (PartialMoved ∷ (Place ∷ []))

      later : had (fs ++ others) r ≡ true → had (tiers_of current baseline) r ≡ true
      later is = or_second (is_some (key_of r Guid)) (had (fs ++ others) r) is

      among_others : had others r ≡ true → had (fs ++ others) r ≡ true
      among_others is = list_any-append (λ (t : Tier). is_some (key_of r t)) fs others ∙ or_second (had fs r) (had others r) is

      by_guid : (g : Option ℕ) → r.guid ≡ g → (full : List (List ℕ × List ℕ)) → r.full ≡ full → (partial : List (List ℕ × List ℕ))
          → r.partial ≡ partial → had (tiers_of current baseline) r ≡ true
      by_guid (Some guid) is full full_is partial partial_is =
          or_first (is_some (key_of r Guid)) (had (fs ++ others) r) (ap (λ (o : Option ℕ). is_some (option_map (λ (g : ℕ). guid_parts r.tool g) o)) is)
      by_guid None is (m ∷ ms) full_is partial partial_is =
          let named : has_name m.0 (rising_names current baseline) ≡ true =
          has_names m.0 current baseline ∙ or_first (has_name m.0 (names_of current)) (has_name m.0 (names_of baseline)) (in_names current i r m ms here full_is) in
          let falls = any_reverse (λ own. bytes_eq own m.0) (rising_names current baseline) named in
          let found : value_of m.0 r.full ≡ Some m.1 =
          ap (value_of m.0) full_is ∙ ap (λ (b : Bool). cond b (Some m.1) (value_of m.0 ms)) (text_refl m.0) in
          later (list_any-append (λ (t : Tier). is_some (key_of r t)) fs others
          ∙ or_first (had fs r) (had others r) (had_name r m.0 m.1 (falling_names current baseline) falls found))
      by_guid None is [] full_is (m ∷ ms) partial_is =
          let some : is_empty r.partial ≡ false = ap is_empty partial_is ∙ ne_eqb (suc (length ms)) 0 (λ e. omega (arith, e)) in
          later (among_others (or_first (is_some (key_of r PartialHere)) (had (PartialMoved ∷ (Place ∷ [])) r)
          (ap (λ (e : Bool). is_some (cond e None (Some (partial_here_parts r.tool r.rule_id r.place r.partial)))) some)))
      by_guid None is [] full_is [] partial_is =
          let unnamed : not (is_some r.guid) && (is_empty r.full && is_empty r.partial) ≡ true =
          λ i. not (is_some (is i)) && (is_empty (full_is i) && is_empty (partial_is i)) in
          later (among_others (or_second (is_some (key_of r PartialHere)) (had (PartialMoved ∷ (Place ∷ [])) r)
          (or_second (is_some (key_of r PartialMoved)) (had (Place ∷ []) r)
          (or_first (is_some (key_of r Place)) false
          (ap (λ (e : Bool). is_some (cond e (Some (place_parts r.tool r.rule_id r.place r.message)) None)) unnamed)))))

  pub each_matched_in_two : AreReordered current baseline → (i : ℕ) → i < length current
      → (j : ℕ) × (slice_index_or (partners_of current baseline) i None ≡ Some j)
  each_matched_in_two reordered i within =
      let r = there_within current i within in
      some_at (slice_index_or (partners_of current baseline) i None)
      (matched current baseline
      (λ test. total_count current baseline reordered test 0 current ∙ reordered test ∙ sym (total_count current baseline reordered test 0 baseline))
      (tiers_of current baseline) i r.0 r.1 (has_one_in_two i r.0 r.1))

pub each_matched_in : (version : MatchingVersion) (current baseline : List Record) → AreReordered current baseline → (i : ℕ) → i < length current
    → (j : ℕ) × (slice_index_or (partners_in version current baseline) i None ≡ Some j)
each_matched_in Two current baseline reordered = each_matched_in_two current baseline reordered
each_matched_in Three current baseline reordered = each_matched current baseline reordered
