-- What is left of baselines is absent, so it is never inside of a change.
use Rattle.std.proofs.Common.{◌≡◌, ◌+◌, ◌++◌, Bool, true, false, not, List, [], ◌∷◌, Some, take, drop, length, codes, refl, sym, ap, ◌∙◌}
use Rattle.std.specs.Prelude.{cond, filter, flat_map, option_and_then}
use Rattle.std.specs.List.{AllByRecursion, filter_map}
use Rattle.serde_json.specs.Data.{Data, null, boolean, number, string, array, object, Members}
use Rattle.serde_json.specs.Find.{as_array}
use Rattle.serde_json.specs.View.{items_of}
use Rattle.serde_json.proofs.Views.{get_member-put}
use Rattle.sarif_counts.specs.CountOf.{count_in, count_of, results_in}
use Rattle.sarif_findings.specs.Reported.{finding_if}
use Rattle.sarif_findings.specs.declared.reporting.Reporting.{Reporting}
use Rattle.sarif_log.specs.MergedRuns.{absent_runs, bare, if_any, unmatched, with_results, written}
use Rattle.sarif_log.specs.Told.{reported_inside}
use Rattle.sarif_log.proofs.RunResults.{put_results_found}
use Rattle.sarif_log.proofs.RunTexts.{present_objects}
use Rattle.sarif_model.proofs.Elements.{items_back}
use Rattle.sarif_model.specs.declared.kinds.Level.{Level}
use Rattle.sarif_model.specs.declared.kinds.State.{State}
use Rattle.sarif_model.specs.declared.kinds.State.TheVariants.{Absent}
use Rattle.sarif_model.specs.declared.record.Record.{Record}
use Rattle.sarif_model.specs.Run.{elements_or_none, present, results_of}
use Rattle.sarif_prepare.proofs.InsideWritten.{absent_outside}
use Rattle.sarif_results.specs.Drafts.{IsObject, IsRun}
use Rattle.sarif_scope.specs.Counted.{count_others}
use Rattle.sarif_scope.specs.Inside.{is_inside}
use Rattle.sarif_scope.specs.declared.gated.GatedChange.{GatedChange}

module _ (change : GatedChange) where
  -- ---- the results of a run

  none_inside : (run : Data) (rs : List Record) (taken : List Bool) (ds : List Data) → AllByRecursion IsObject ds
      → filter (is_inside change run) (unmatched rs taken ds) ≡ []
  none_inside run [] taken ds objects = refl
  none_inside run (r ∷ rs) [] ds objects = refl
  none_inside run (r ∷ rs) (t ∷ taken) [] objects = refl
  none_inside run (r ∷ rs) (true ∷ taken) (d ∷ ds) objects = none_inside run rs taken ds objects.1
  none_inside run (r ∷ rs) (false ∷ taken) (d ∷ ds) objects =
      let x = written (λ _ own. own) r Absent d in
      let kept = filter (is_inside change run) (unmatched rs taken ds) in
      ap (λ b. cond b (x ∷ kept) kept) (absent_outside change run (λ _ own. own) r d objects.0)
      ∙ none_inside run rs taken ds objects.1

  all_outside : (run : Data) (rs : List Record) (taken : List Bool) (ds : List Data) → AllByRecursion IsObject ds
      → filter (λ d. not (is_inside change run d)) (unmatched rs taken ds) ≡ unmatched rs taken ds
  all_outside run [] taken ds objects = refl
  all_outside run (r ∷ rs) [] ds objects = refl
  all_outside run (r ∷ rs) (t ∷ taken) [] objects = refl
  all_outside run (r ∷ rs) (true ∷ taken) (d ∷ ds) objects = all_outside run rs taken ds objects.1
  all_outside run (r ∷ rs) (false ∷ taken) (d ∷ ds) objects =
      let x = written (λ _ own. own) r Absent d in
      let kept = filter (λ y. not (is_inside change run y)) (unmatched rs taken ds) in
      ap (λ b. cond (not b) (x ∷ kept) kept) (absent_outside change run (λ _ own. own) r d objects.0)
      ∙ ap (λ l. x ∷ l) (all_outside run rs taken ds objects.1)

  found : (xs : List Data) (ms : Members) → results_of (object (with_results (Some (items_of xs)) (bare ms))) ≡ xs
  found xs ms =
      ap (λ o. elements_or_none (option_and_then as_array o)) (get_member-put (codes "results") (array (items_of xs)) (bare ms)) ∙ items_back xs

  -- ---- the findings

  told_any : (reporting : Reporting) (xs : List Data) (run : Data) (more : List Data) → IsObject run
      → ((m : Data) → filter (is_inside change m) xs ≡ [])
      → flat_map (reported_inside change reporting) more ≡ []
      → flat_map (reported_inside change reporting) (if_any xs run more) ≡ []
  told_any reporting [] run more is none rest = rest
  told_any reporting (x ∷ xs) null more is none rest = absurd is
  told_any reporting (x ∷ xs) (boolean b) more is none rest = absurd is
  told_any reporting (x ∷ xs) (number n) more is none rest = absurd is
  told_any reporting (x ∷ xs) (string s) more is none rest = absurd is
  told_any reporting (x ∷ xs) (array ds) more is none rest = absurd is
  told_any reporting (x ∷ xs) (object ms) more is none rest =
      let m = object (with_results (Some (items_of (x ∷ xs))) (bare ms)) in
      ap (λ l. filter_map (finding_if reporting m) l ++ flat_map (reported_inside change reporting) more)
      (ap (filter (is_inside change m)) (found (x ∷ xs) ms) ∙ none m)
      ∙ rest

  pub left_untold : (reporting : Reporting) (rs : List Record) (taken : List Bool) (runs : List Data) → AllByRecursion IsRun runs
      → flat_map (reported_inside change reporting) (absent_runs rs taken runs) ≡ []
  left_untold reporting rs taken [] are = refl
  left_untold reporting rs taken (run ∷ runs) are =
      let ds = present (results_of run) in
      let n = length ds in
      told_any reporting (unmatched (take n rs) (take n taken) ds) run (absent_runs (drop n rs) (drop n taken) runs) are.0.0
      (λ m. none_inside m (take n rs) (take n taken) ds (present_objects (results_of run) are.0.1))
      (left_untold reporting (drop n rs) (drop n taken) runs are.1)

  -- ---- the counts

  count_any : (s : State) (l : Level) (b : Bool) (xs : List Data) (run : Data) (more : List Data) → IsObject run
      → ((m : Data) → filter (λ d. not (is_inside change m d)) xs ≡ xs)
      → count_others change more s l b ≡ count_of more s l b
      → count_others change (if_any xs run more) s l b ≡ count_of (if_any xs run more) s l b
  count_any s l b [] run more is all rest = rest
  count_any s l b (x ∷ xs) null more is all rest = absurd is
  count_any s l b (x ∷ xs) (boolean t) more is all rest = absurd is
  count_any s l b (x ∷ xs) (number n) more is all rest = absurd is
  count_any s l b (x ∷ xs) (string t) more is all rest = absurd is
  count_any s l b (x ∷ xs) (array ds) more is all rest = absurd is
  count_any s l b (x ∷ xs) (object ms) more is all rest =
      let m = object (with_results (Some (items_of (x ∷ xs))) (bare ms)) in
      ap (λ n. n + count_others change more s l b)
      (ap (λ l'. count_in (items_of l') s l b) (ap (filter (λ d. not (is_inside change m d))) (found (x ∷ xs) ms) ∙ all m)
      ∙ ap (λ ds. count_in ds s l b) (sym (put_results_found (items_of (x ∷ xs)) (bare ms))))
      ∙ ap (λ n. count_in (results_in m) s l b + n) rest

  pub left_others : (s : State) (l : Level) (b : Bool) (rs : List Record) (taken : List Bool) (runs : List Data) → AllByRecursion IsRun runs
      → count_others change (absent_runs rs taken runs) s l b ≡ count_of (absent_runs rs taken runs) s l b
  left_others s l b rs taken [] are = refl
  left_others s l b rs taken (run ∷ runs) are =
      let ds = present (results_of run) in
      let n = length ds in
      count_any s l b (unmatched (take n rs) (take n taken) ds) run (absent_runs (drop n rs) (drop n taken) runs) are.0.0
      (λ m. all_outside m (take n rs) (take n taken) ds (present_objects (results_of run) are.0.1))
      (left_others s l b (drop n rs) (drop n taken) runs are.1)
