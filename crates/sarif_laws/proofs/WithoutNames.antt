-- A result is written without some of its fingerprints as it is written without them.
use Rattle.std.proofs.Common.{◌≡◌, ℕ, ◌+◌, Bool, true, false, cond, not, ◌&&◌, List, [], ◌∷◌, map, codes, refl, sym, ap, ap₂, ◌∙◌, if◌then◌else◌}
use Rattle.std.specs.Prelude.{option_and_then}
use Rattle.std.specs.Ordering.{nat_cmp, match_ordering, is_eq}
use Rattle.std.specs.declared.cmp.Ordering.{Ordering}
use Rattle.std.specs.declared.cmp.Ordering.TheVariants.{Less, Equal, Greater}
use Rattle.std.specs.Cmp.Lexicographic.{slice_cmp, texts_ties}
use Rattle.std.proofs.lemmas.Cmp.{nat_list_cmp_total, tied_itself}
use Rattle.std.proofs.lemmas.Slice.Eq.{bytes_eq-Decides}
use Rattle.serde_json.specs.Data.{Data, null, boolean, number, string, array, object, Items, no_items, item, Members, no_members, member, put}
use Rattle.serde_json.specs.Find.{as_str}
use Rattle.serde_json.specs.View.{items_of}
use Rattle.sarif_model.specs.declared.kinds.Level.{Level}
use Rattle.sarif_model.specs.declared.kinds.State.{State}
use Rattle.sarif_model.specs.declared.kinds.State.TheVariants.{Absent}
use Rattle.sarif_model.specs.declared.record.Record.{Record}
use Rattle.sarif_model.specs.Level.{level_name}
use Rattle.sarif_model.specs.Members.{elements}
use Rattle.sarif_model.specs.Run.{is_absent_result, is_text, present}
use Rattle.sarif_model.specs.State.{state_name}
use Rattle.sarif_members.proofs.AlikeMembers.{absent_same}
use Rattle.sarif_counts.specs.CountOf.{carries, count_in, items_in, suppresses}
use Rattle.sarif_counts.specs.Hits.{count_if}
use Rattle.sarif_counts.specs.Tally.{same_side}
use Rattle.sarif_runs_laws.specs.Ignoring.{each_without, is_map, map_without, result_without, value_without}
use Rattle.sarif_runs_laws.proofs.Fingerprints.{alike_beside}
use Rattle.sarif_results.specs.Annotated.{annotated_members, own_suppressions}
use Rattle.sarif_results.specs.Drafts.{Listing}
use Rattle.sarif_log.specs.MergedRuns.{keep_if, unmatched, written, written_all}

-- ---- members that are put

put_twice_at : (o : Ordering) (k l : List ℕ) (a b e : Data) (ms : Members) → slice_cmp nat_cmp k l ≡ o → put k a (put k b ms) ≡ put k a ms
    → put k a (match_ordering o (member k b (member l e ms)) (member l b ms) (member l e (put k b ms)))
    ≡ match_ordering o (member k a (member l e ms)) (member l a ms) (member l e (put k a ms))
put_twice_at Less k l a b e ms is later =
    ap (λ (o : Ordering). match_ordering o (member k a (member k b (member l e ms))) (member k a (member l e ms)) (member k b (put k a (member l e ms))))
    (tied_itself nat_list_cmp_total k)
put_twice_at Equal k l a b e ms is later =
    ap (λ (o : Ordering). match_ordering o (member k a (member l b ms)) (member l a ms) (member l b (put k a ms))) is
put_twice_at Greater k l a b e ms is later =
    ap (λ (o : Ordering). match_ordering o (member k a (member l e (put k b ms))) (member l a (put k b ms)) (member l e (put k a (put k b ms)))) is
    ∙ ap (member l e) later

-- the last one is there
pub put_twice : (k : List ℕ) (a b : Data) (ms : Members) → put k a (put k b ms) ≡ put k a ms
put_twice k a b no_members =
    ap (λ (o : Ordering). match_ordering o (member k a (member k b no_members)) (member k a no_members) (member k b (put k a no_members)))
    (tied_itself nat_list_cmp_total k)
put_twice k a b (member l e ms) = put_twice_at (slice_cmp nat_cmp k l) k l a b e ms refl (put_twice k a b ms)

module _ (names : List (List ℕ)) where
  abbrev less : Data → Data
  less d = result_without names d

  each_put_at : (o : Ordering) (k l : List ℕ) (d e : Data) (ms : Members) → slice_cmp nat_cmp k l ≡ o
      → each_without names (put k d ms) ≡ put k (value_without names k d) (each_without names ms)
      → each_without names (match_ordering o (member k d (member l e ms)) (member l d ms) (member l e (put k d ms)))
      ≡ match_ordering o (member k (value_without names k d) (member l (value_without names l e) (each_without names ms)))
      (member l (value_without names k d) (each_without names ms))
      (member l (value_without names l e) (put k (value_without names k d) (each_without names ms)))
  each_put_at Less k l d e ms is later = refl
  each_put_at Equal k l d e ms is later =
      let same : k ≡ l = (bytes_eq-Decides k l).0 (texts_ties k l ∙ ap is_eq is) in
      ap (λ n. member l (value_without names n d) (each_without names ms)) (sym same)
  each_put_at Greater k l d e ms is later = ap (member l (value_without names l e)) later

  each_put : (k : List ℕ) (d : Data) (ms : Members) → each_without names (put k d ms) ≡ put k (value_without names k d) (each_without names ms)
  each_put k d no_members = refl
  each_put k d (member l e ms) = each_put_at (slice_cmp nat_cmp k l) k l d e ms refl (each_put k d ms)

  put_other : (k : List ℕ) (d : Data) (ms : Members) → is_map k ≡ false → each_without names (put k d ms) ≡ put k d (each_without names ms)
  put_other k d ms other =
      each_put k d ms ∙ ap (λ (b : Bool). put k (if b then map_without names d else d) (each_without names ms)) other

  -- ---- a written result

  annotated_without : (level : Level) (state : State) (list : Items) (ms : Members)
      → annotated_members level state list (each_without names ms) ≡ each_without names (annotated_members level state list ms)
  annotated_without level state list ms =
      let listed = put (codes "suppressions") (array list) ms in
      let leveled = put (codes "level") (string (level_name level)) listed in
      sym
      (put_other (codes "baselineState") (string (state_name state)) leveled refl
      ∙ ap (put (codes "baselineState") (string (state_name state)))
      (put_other (codes "level") (string (level_name level)) listed refl
      ∙ ap (put (codes "level") (string (level_name level))) (put_other (codes "suppressions") (array list) ms refl)))

  pub written_without : (listed : Listing) (r : Record) (s : State) (d : Data) → written listed r s (less d) ≡ less (written listed r s d)
  written_without listed r s null = refl
  written_without listed r s (boolean b) = refl
  written_without listed r s (number n) = refl
  written_without listed r s (string t) = refl
  written_without listed r s (array ds) = refl
  written_without listed r s (object ms) =
      let own : own_suppressions (each_without names ms) ≡ own_suppressions ms = ap items_in (alike_beside names (object ms)).suppressions in
      ap (λ (list : Items). object (annotated_members r.level s (items_of (listed r (elements list))) (each_without names ms))) own
      ∙ ap object (annotated_without r.level s (items_of (listed r (elements (own_suppressions ms)))) ms)

  pub all_without : (listed : Listing) (rs : List Record) (ss : List State) (ds : List Data)
      → written_all listed rs ss (map less ds) ≡ map less (written_all listed rs ss ds)
  all_without listed [] ss ds = refl
  all_without listed (r ∷ rs) [] ds = refl
  all_without listed (r ∷ rs) (s ∷ ss) [] = refl
  all_without listed (r ∷ rs) (s ∷ ss) (d ∷ ds) = ap₂ (λ x xs. x ∷ xs) (written_without listed r s d) (all_without listed rs ss ds)

  -- ---- absent results

  kept_without : (keep : Bool) (d : Data) (ds : List Data) → keep_if keep (less d) (map less ds) ≡ map less (keep_if keep d ds)
  kept_without true d ds = refl
  kept_without false d ds = refl

  pub unmatched_without : (rs : List Record) (ts : List Bool) (ds : List Data) → unmatched rs ts (map less ds) ≡ map less (unmatched rs ts ds)
  unmatched_without [] ts ds = refl
  unmatched_without (r ∷ rs) [] ds = refl
  unmatched_without (r ∷ rs) (t ∷ ts) [] = refl
  unmatched_without (r ∷ rs) (t ∷ ts) (d ∷ ds) =
      let own : Listing = λ _ own. own in
      ap₂ (keep_if (not t)) (written_without own r Absent d) (unmatched_without rs ts ds)
      ∙ kept_without (not t) (written own r Absent d) (unmatched rs ts ds)

  pub present_without : (ds : List Data) → present (map less ds) ≡ map less (present ds)
  present_without [] = refl
  present_without (d ∷ ds) =
      ap₂ (λ b rest. cond (not b) (less d ∷ rest) rest) (absent_same (less d) d (alike_beside names d)) (present_without ds)
      ∙ by_test (is_absent_result d)
    where
      by_test : (b : Bool) → cond (not b) (result_without names d ∷ map (result_without names) (present ds)) (map (result_without names) (present ds))
          ≡ map (result_without names) (cond (not b) (d ∷ present ds) (present ds))
      by_test true = refl
      by_test false = refl

  -- ---- counts

  module _ (s : State) (l : Level) (b : Bool) where
    carries_without : (d : Data) → carries s l b (less d) ≡ carries s l b d
    carries_without d =
        let same = alike_beside names d in
        (λ i. is_text (state_name s) (option_and_then as_str (same.state i))
        && (is_text (level_name l) (option_and_then as_str (same.level i))
        && same_side b (suppresses (items_in (same.suppressions i)))))

    pub counted_without : (ds : Items) → count_in (items_of (map less (elements ds))) s l b ≡ count_in ds s l b
    counted_without no_items = refl
    counted_without (item d ds) = ap₂ (λ c n. count_if c 1 + n) (carries_without d) (counted_without ds)
