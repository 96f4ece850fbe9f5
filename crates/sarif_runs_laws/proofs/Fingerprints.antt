-- The fingerprints of a result without those of some names.
use Rattle.std.proofs.Common.{◌≡◌, ℕ, Bool, true, false, cond, not, List, [], ◌∷◌, Option, Some, None, option_map, Ordering, codes, refl, sym, ap, ◌∙◌, if◌then◌else◌}
use Rattle.std.specs.Prelude.{Result, Ok, Err, option_and_then}
use Rattle.std.specs.Ordering.{nat_cmp, match_ordering, is_eq}
use Rattle.std.specs.declared.cmp.Ordering.TheVariants.{Less, Equal, Greater}
use Rattle.std.specs.Cmp.Lexicographic.{slice_cmp, texts_ties}
use Rattle.std.proofs.lemmas.Slice.Eq.{bytes_eq-Decides}
use Rattle.serde_json.specs.Data.{Data, null, boolean, number, string, array, object, Members, no_members, member}
use Rattle.serde_json.specs.Find.{get, get_member, as_object}
use Rattle.sarif_model.specs.declared.fault.Fault.TheVariants.{BadFingerprint}
use Rattle.sarif_model.specs.Members.{◌>>=◌, of_kind, result_map, unless_null}
use Rattle.sarif_members.specs.Fingerprints.{Pair, pairs_among, pairs_at, pairs_of, text_or_null, with_pair}
use Rattle.sarif_read.proofs.WholeRuns.{bind_ok}
use Rattle.sarif_runs.specs.Ignoring.{is_among, without_names}
use Rattle.sarif_runs_laws.specs.Ignoring.{each_without, is_map, map_without, members_without, result_without, value_without}
use Rattle.sarif_members.proofs.AlikeMembers.{AreAlikeBeside}
use Rattle.sarif_runs_laws.proofs.Members.{HasFingerprints}

module _ (names : List (List ℕ)) where
  -- ---- members of a result

  found_in : (k : List ℕ) (ms : Members) → get_member k (each_without names ms) ≡ option_map (value_without names k) (get_member k ms)
  found_in k no_members = refl
  found_in k (member l d ms) = by_order (slice_cmp nat_cmp k l) refl (found_in k ms)
    where
      by_order : (o : Ordering) → slice_cmp nat_cmp k l ≡ o → get_member k (each_without names ms) ≡ option_map (value_without names k) (get_member k ms)
          → match_ordering o (get_member k (each_without names ms)) (Some (value_without names l d)) (get_member k (each_without names ms))
          ≡ option_map (value_without names k) (match_ordering o (get_member k ms) (Some d) (get_member k ms))
      by_order Less is rest = rest
      by_order Equal is rest =
          let same : k ≡ l = (bytes_eq-Decides k l).0 (texts_ties k l ∙ ap is_eq is) in
          ap (λ n. Some (value_without names n d)) (sym same)
      by_order Greater is rest = rest

  pub found_without : (k : List ℕ) (d : Data) → get k (result_without names d) ≡ option_map (value_without names k) (get k d)
  found_without k null = refl
  found_without k (boolean b) = refl
  found_without k (number n) = refl
  found_without k (string s) = refl
  found_without k (array ds) = refl
  found_without k (object ms) = found_in k ms

  same_value : (k : List ℕ) (o : Option Data) → is_map k ≡ false → option_map (value_without names k) o ≡ o
  same_value k None other = refl
  same_value k (Some d) other = ap (λ b. Some (if b then map_without names d else d)) other

  others_stay : (k : List ℕ) (d : Data) → is_map k ≡ false → get k (result_without names d) ≡ get k d
  others_stay k d other = found_without k d ∙ same_value k (get k d) other

  map_value : (k : List ℕ) (o : Option Data) → is_map k ≡ true → option_map (value_without names k) o ≡ option_map (map_without names) o
  map_value k None is = refl
  map_value k (Some d) is = ap (λ b. Some (if b then map_without names d else d)) is

  pub alike_beside : (d : Data) → AreAlikeBeside (result_without names d) d
  alike_beside d = record {
    state = others_stay (codes "baselineState") d refl;
    kind = others_stay (codes "kind") d refl;
    level = others_stay (codes "level") d refl;
    guid = others_stay (codes "correlationGuid") d refl;
    suppressions = others_stay (codes "suppressions") d refl;
    message = others_stay (codes "message") d refl;
    rule_id = others_stay (codes "ruleId") d refl;
    rule_index = others_stay (codes "ruleIndex") d refl;
    rule = others_stay (codes "rule") d refl;
    provenance = others_stay (codes "provenance") d refl;
    locations = others_stay (codes "locations") d refl;
  }

  -- ---- the two maps

  ok_map : {A B E : Type 0} (f : A → B) (r : Result A E) (y : B) → result_map f r ≡ Ok y → (x : A) × (r ≡ Ok x) × (f x ≡ y)
  ok_map f (Ok x) y is = (x, refl, cc)
  ok_map f (Err e) y is = let never : ⊥ = cc in absurd never

  ignored : (name : List ℕ) (value : Option (List ℕ)) (ps : List Pair) → is_among names name ≡ true
      → without_names names (with_pair name value ps) ≡ without_names names ps
  ignored name None ps is = refl
  ignored name (Some text) ps is = ap (λ b. cond (not b) ((name, text) ∷ without_names names ps) (without_names names ps)) is

  kept : (name : List ℕ) (value : Option (List ℕ)) (ps : List Pair) → is_among names name ≡ false
      → without_names names (with_pair name value ps) ≡ with_pair name value (without_names names ps)
  kept name None ps is = refl
  kept name (Some text) ps is = ap (λ b. cond (not b) ((name, text) ∷ without_names names ps) (without_names names ps)) is

  among_without : (ms : Members) (ps : List Pair) → pairs_among ms ≡ Ok ps → pairs_among (members_without names ms) ≡ Ok (without_names names ps)
  among_without no_members ps is = let none : [] ≡ ps = cc in ap (λ l. Ok (without_names names l)) none
  among_without (member name d ms) ps is =
      let value = bind_ok (text_or_null d) _ ps is in
      let rest = ok_map (with_pair name value.0) (pairs_among ms) ps value.2 in
      by_test value.0 rest.0 (is_among names name) refl value.1 rest.2 (among_without ms rest.0 rest.1)
    where
      by_test : (value : Option (List ℕ)) (qs : List Pair) (b : Bool) → is_among names name ≡ b → text_or_null d ≡ Ok value → with_pair name value qs ≡ ps
          → pairs_among (members_without names ms) ≡ Ok (without_names names qs)
          → pairs_among (if b then members_without names ms else member name d (members_without names ms)) ≡ Ok (without_names names ps)
      by_test value qs true among text same rest =
          rest ∙ ap Ok (sym (ignored name value qs among) ∙ ap (without_names names) same)
      by_test value qs false among text same rest =
          ap (λ t. t >>= λ v. result_map (with_pair name v) (pairs_among (members_without names ms))) text
          ∙ ap (result_map (with_pair name value)) rest
          ∙ ap Ok (sym (kept name value qs among) ∙ ap (without_names names) same)

  pairs_by : (o : Option Data) (ps : List Pair) → (of_kind BadFingerprint as_object (option_and_then unless_null o) >>= pairs_of) ≡ Ok ps
      → (of_kind BadFingerprint as_object (option_and_then unless_null (option_map (map_without names) o)) >>= pairs_of) ≡ Ok (without_names names ps)
  pairs_by None ps is = let none : [] ≡ ps = cc in ap (λ l. Ok (without_names names l)) none
  pairs_by (Some null) ps is = let none : [] ≡ ps = cc in ap (λ l. Ok (without_names names l)) none
  pairs_by (Some (boolean b)) ps is = let never : ⊥ = cc in absurd never
  pairs_by (Some (number n)) ps is = let never : ⊥ = cc in absurd never
  pairs_by (Some (string s)) ps is = let never : ⊥ = cc in absurd never
  pairs_by (Some (array ds)) ps is = let never : ⊥ = cc in absurd never
  pairs_by (Some (object ms)) ps is = among_without ms ps is

  pairs_without : (k : List ℕ) (d : Data) (ps : List Pair) → is_map k ≡ true → pairs_at k d ≡ Ok ps
      → pairs_at k (result_without names d) ≡ Ok (without_names names ps)
  pairs_without k d ps map is =
      ap (λ o. of_kind BadFingerprint as_object (option_and_then unless_null o) >>= pairs_of) (found_without k d ∙ map_value k (get k d) map)
      ∙ pairs_by (get k d) ps is

  pub fingerprints_without : (d : Data) (full partial : List Pair) → HasFingerprints d full partial
      → HasFingerprints (result_without names d) (without_names names full) (without_names names partial)
  fingerprints_without d full partial are = record {
    full_is = pairs_without (codes "fingerprints") d full refl are.full_is;
    partial_is = pairs_without (codes "partialFingerprints") d partial refl are.partial_is;
  }
