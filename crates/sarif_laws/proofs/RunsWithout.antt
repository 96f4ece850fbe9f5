-- The runs of a merge are written without some fingerprints of their results as they are written without them.
use Rattle.std.proofs.Common.{◌≡◌, ℕ, ◌+◌, Bool, List, [], ◌∷◌, map, length, take, drop, Option, Some, None, is_some, not, cond, codes, refl, sym, ap, ap₂, ◌∙◌}
use Rattle.std.specs.Prelude.{option_and_then, option_map}
use Rattle.std.proofs.lemmas.List.{length-map}
use Rattle.std.proofs.lemmas.List.Sums.{sum_by-cons}
use Rattle.serde_json.specs.Data.{Data, null, boolean, number, string, array, object, Items, Members, put}
use Rattle.serde_json.specs.Find.{as_array, get_member}
use Rattle.serde_json.specs.View.{items_of}
use Rattle.serde_json.proofs.Views.{get_member-put}
use Rattle.json_parts.specs.Without.{without}
use Rattle.sarif_model.specs.declared.kinds.Level.{Level}
use Rattle.sarif_model.specs.declared.kinds.State.{State}
use Rattle.sarif_model.specs.declared.record.Record.{Record}
use Rattle.sarif_model.specs.Members.{elements}
use Rattle.sarif_model.specs.Run.{elements_or_none, present, results_array, results_of}
use Rattle.sarif_model.proofs.Elements.{items_back}
use Rattle.sarif_read.specs.Unmarked.{with_array}
use Rattle.sarif_read.proofs.Only.{array_only}
use Rattle.sarif_read.proofs.RunOf.{without_put}
use Rattle.sarif_counts.specs.CountOf.{count_in, count_of, items_in, results_in}
use Rattle.sarif_runs_laws.specs.Ignoring.{result_without, run_without}
use Rattle.sarif_results.specs.Drafts.{Listing}
use Rattle.sarif_log.specs.LogBy.{runs_without_results}
use Rattle.sarif_log.specs.MergedRuns.{absent_runs, annotated_items, bare, if_any, merged_run, merged_runs, unmatched, with_absent, with_results, written_all}
use Rattle.sarif_log.proofs.RunResults.{still_out, taken_out}
use Rattle.sarif_laws.proofs.WithoutNames.{all_without, counted_without, present_without, put_twice, unmatched_without}

bare_none : (ms : Members) → results_array (object (bare ms)) ≡ None
bare_none ms =
    ap (option_and_then as_array)
    (still_out (codes "results") (codes "baselineGuid") (without (codes "results") ms) (taken_out (codes "results") ms))

bare_put : (d : Data) (ms : Members) → bare (put (codes "results") d ms) ≡ bare ms
bare_put d ms = ap (without (codes "baselineGuid")) (without_put (codes "results") d ms)

module _ (names : List (List ℕ)) where
  abbrev less : Data → Data
  less d = result_without names d

  abbrev less_run : Data → Data
  less_run run = run_without names run

  -- ---- the run

  unchanged : (run : Data) → results_array run ≡ None → less_run run ≡ run
  unchanged run is = ap (λ (o : Option Items). with_array (option_map (λ _. items_of (map less (results_of run))) o) run) is

  changed : (ms : Members) (ds : Items) → results_array (object ms) ≡ Some ds
      → less_run (object ms) ≡ object (put (codes "results") (array (items_of (map less (elements ds)))) ms)
  changed ms ds is =
      ap (λ (o : Option Items). with_array (option_map (λ _. items_of (map less (elements_or_none o))) o) (object ms)) is

  found_put : (W : List Data) (ms : Members) → results_array (object (put (codes "results") (array (items_of W)) ms)) ≡ Some (items_of W)
  found_put W ms = ap (option_and_then as_array) (get_member-put (codes "results") (array (items_of W)) ms)

  changed_put : (W : List Data) (ms : Members) → less_run (object (put (codes "results") (array (items_of W)) ms))
      ≡ object (put (codes "results") (array (items_of (map less W))) ms)
  changed_put W ms =
      changed (put (codes "results") (array (items_of W)) ms) (items_of W) (found_put W ms)
      ∙ ap (λ (l : List Data). object (put (codes "results") (array (items_of (map less l))) (put (codes "results") (array (items_of W)) ms))) (items_back W)
      ∙ ap object (put_twice (codes "results") (array (items_of (map less W))) (array (items_of W)) ms)

  results_less : (run : Data) → results_of (less_run run) ≡ map less (results_of run)
  results_less run = ap elements_or_none (array_only (map less (results_of run)) run) ∙ by_array (results_array run)
    where
      by_array : (found : Option Items)
          → elements_or_none (option_map (λ _. items_of (map (result_without names) (elements_or_none found))) found)
          ≡ map (result_without names) (elements_or_none found)
      by_array None = refl
      by_array (Some ds) = items_back (map (result_without names) (elements ds))

  -- ---- input runs

  module _ (listed : Listing) (rs : List Record) (ss : List State) where
    merged_none : (ms : Members) → results_array (object ms) ≡ None → merged_run listed rs ss (object ms) ≡ object (bare ms)
    merged_none ms is = ap (λ (o : Option Items). object (with_results (annotated_items listed rs ss o) (bare ms))) is

    merged_some : (ms : Members) (ds : Items) → results_array (object ms) ≡ Some ds
        → merged_run listed rs ss (object ms) ≡ object (put (codes "results") (array (items_of (written_all listed rs ss (elements ds)))) (bare ms))
    merged_some ms ds is = ap (λ (o : Option Items). object (with_results (annotated_items listed rs ss o) (bare ms))) is

    merged_object : (ms : Members) (found : Option Items) → results_array (object ms) ≡ found
        → merged_run listed rs ss (less_run (object ms)) ≡ less_run (merged_run listed rs ss (object ms))
    merged_object ms None is =
        let plain = merged_none ms is in
        ap (merged_run listed rs ss) (unchanged (object ms) is)
        ∙ sym (unchanged (merged_run listed rs ss (object ms)) (ap results_array plain ∙ bare_none ms))
    merged_object ms (Some ds) is =
        let N = map less (elements ds) in
        let W = written_all listed rs ss (elements ds) in
        let now = put (codes "results") (array (items_of N)) ms in
        ap (merged_run listed rs ss) (changed ms ds is)
        ∙ merged_some now (items_of N) (found_put N ms)
        ∙ ap₂ (λ (l : List Data) (m : Members). object (put (codes "results") (array (items_of (written_all listed rs ss l))) m)) (items_back N)
        (bare_put (array (items_of N)) ms)
        ∙ ap (λ (l : List Data). object (put (codes "results") (array (items_of l)) (bare ms))) (all_without names listed rs ss (elements ds))
        ∙ sym (ap less_run (merged_some ms ds is) ∙ changed_put W (bare ms))

    merged_less : (run : Data) → merged_run listed rs ss (less_run run) ≡ less_run (merged_run listed rs ss run)
    merged_less null = refl
    merged_less (boolean b) = refl
    merged_less (number n) = refl
    merged_less (string s) = refl
    merged_less (array ds) = refl
    merged_less (object ms) = merged_object ms (results_array (object ms)) refl

  pub merged_without : (listed : Listing) (rs : List Record) (ss : List State) (runs : List Data)
      → merged_runs listed rs ss (map less_run runs) ≡ map less_run (merged_runs listed rs ss runs)
  merged_without listed rs ss [] = refl
  merged_without listed rs ss (run ∷ runs) =
      let n = length (results_of run) in
      let many = ap length (results_less run) ∙ length-map (results_of run) less in
      ap (λ (k : ℕ). merged_run listed (take k rs) (take k ss) (less_run run) ∷ merged_runs listed (drop k rs) (drop k ss) (map less_run runs)) many
      ∙ ap₂ (λ (x : Data) (xs : List Data). x ∷ xs) (merged_less listed (take n rs) (take n ss) run)
      (merged_without listed (drop n rs) (drop n ss) runs)

  -- ---- absent results

  absent_bare : (W : List Data) (ms : Members) (found : Option Items) → results_array (object ms) ≡ found
      → with_absent W (less_run (object ms)) ≡ with_absent W (object ms)
  absent_bare W ms None is = ap (with_absent W) (unchanged (object ms) is)
  absent_bare W ms (Some ds) is =
      ap (with_absent W) (changed ms ds is)
      ∙ ap (λ (m : Members). object (put (codes "results") (array (items_of W)) m)) (bare_put (array (items_of (map less (elements ds)))) ms)

  absent_less : (W : List Data) (run : Data) → with_absent (map less W) (less_run run) ≡ less_run (with_absent W run)
  absent_less W null = refl
  absent_less W (boolean b) = refl
  absent_less W (number n) = refl
  absent_less W (string s) = refl
  absent_less W (array ds) = refl
  absent_less W (object ms) =
      absent_bare (map less W) ms (results_array (object ms)) refl ∙ sym (changed_put W (bare ms))

  any_less : (ds : List Data) (run : Data) (runs : List Data) → if_any (map less ds) (less_run run) (map less_run runs) ≡ map less_run (if_any ds run runs)
  any_less [] run runs = refl
  any_less (d ∷ ds) run runs = ap (λ (x : Data). x ∷ map less_run runs) (absent_less (d ∷ ds) run)

  pub absent_without : (rs : List Record) (ts : List Bool) (runs : List Data) → absent_runs rs ts (map less_run runs) ≡ map less_run (absent_runs rs ts runs)
  absent_without rs ts [] = refl
  absent_without rs ts (run ∷ runs) =
      let ds = present (results_of run) in
      let n = length ds in
      let now : present (results_of (less_run run)) ≡ map less ds = ap present (results_less run) ∙ present_without names (results_of run) in
      ap (λ (l : List Data). if_any (unmatched (take (length l) rs) (take (length l) ts) l) (less_run run)
      (absent_runs (drop (length l) rs) (drop (length l) ts) (map less_run runs))) now
      ∙ ap (λ (k : ℕ). if_any (unmatched (take k rs) (take k ts) (map less ds)) (less_run run) (absent_runs (drop k rs) (drop k ts) (map less_run runs)))
      (length-map ds less)
      ∙ ap₂ (λ (l : List Data) (m : List Data). if_any l (less_run run) m) (unmatched_without names (take n rs) (take n ts) ds)
      (absent_without (drop n rs) (drop n ts) runs)
      ∙ any_less (unmatched (take n rs) (take n ts) ds) run (absent_runs (drop n rs) (drop n ts) runs)

  -- ---- counts

  module _ (s : State) (l : Level) (b : Bool) where
    same_if_unchanged : (run : Data) → results_array run ≡ None → count_in (results_in (less_run run)) s l b ≡ count_in (results_in run) s l b
    same_if_unchanged run is = ap (λ (r : Data). count_in (results_in r) s l b) (unchanged run is)

    object_counted : (ms : Members) (o : Option Data) → get_member (codes "results") ms ≡ o
        → count_in (results_in (less_run (object ms))) s l b ≡ count_in (results_in (object ms)) s l b
    object_counted ms None is = same_if_unchanged (object ms) (ap (option_and_then as_array) is)
    object_counted ms (Some null) is = same_if_unchanged (object ms) (ap (option_and_then as_array) is)
    object_counted ms (Some (boolean c)) is = same_if_unchanged (object ms) (ap (option_and_then as_array) is)
    object_counted ms (Some (number n)) is = same_if_unchanged (object ms) (ap (option_and_then as_array) is)
    object_counted ms (Some (string t)) is = same_if_unchanged (object ms) (ap (option_and_then as_array) is)
    object_counted ms (Some (object other)) is = same_if_unchanged (object ms) (ap (option_and_then as_array) is)
    object_counted ms (Some (array ds)) is =
        let N = items_of (map less (elements ds)) in
        ap (λ (r : Data). count_in (results_in r) s l b) (changed ms ds (ap (option_and_then as_array) is))
        ∙ ap (λ (o : Option Data). count_in (items_in o) s l b) (get_member-put (codes "results") (array N) ms)
        ∙ counted_without names s l b ds
        ∙ sym (ap (λ (o : Option Data). count_in (items_in o) s l b) is)

    run_counted : (run : Data) → count_in (results_in (less_run run)) s l b ≡ count_in (results_in run) s l b
    run_counted null = refl
    run_counted (boolean c) = refl
    run_counted (number n) = refl
    run_counted (string t) = refl
    run_counted (array ds) = refl
    run_counted (object ms) = object_counted ms (get_member (codes "results") ms) refl

    pub count_without : (runs : List Data) → count_of (map less_run runs) s l b ≡ count_of runs s l b
    count_without [] = refl
    count_without (run ∷ runs) = ap₂ (λ (m : ℕ) (n : ℕ). m + n) (run_counted run) (count_without runs)

  some_mapped : {A B : Type 0} (f : A → B) (o : Option A) → is_some (option_map f o) ≡ is_some o
  some_mapped f None = refl
  some_mapped f (Some a) = refl

  pub bare_without : (runs : List Data) → runs_without_results (map less_run runs) ≡ runs_without_results runs
  bare_without [] = refl
  bare_without (run ∷ runs) =
      sum_by-cons (λ (r : Data). cond (not (is_some (results_array r))) 1 0) (less_run run) (map less_run runs)
      ∙ ap₂ (λ (c : Bool) (n : ℕ). cond (not c) 1 0 + n)
      (ap is_some (array_only (map less (results_of run)) run) ∙ some_mapped (λ _. items_of (map less (results_of run))) (results_array run))
      (bare_without runs)
      ∙ sym (sum_by-cons (λ (r : Data). cond (not (is_some (results_array r))) 1 0) run runs)
