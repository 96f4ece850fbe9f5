-- Absent results that are hits stay.
use Rattle.std.proofs.Common.{◌≡◌, Bool, true, false, ◌&&◌, ◌||◌, not, List, [], ◌∷◌, length, take, drop, codes, refl, sym, ap, ◌∙◌, subst}
use Rattle.std.specs.Prelude.{option_and_then}
use Rattle.std.specs.List.{AllByRecursion}
use Rattle.serde_json.specs.Data.{Data, null, boolean, number, string, array, object}
use Rattle.serde_json.specs.Find.{as_array}
use Rattle.serde_json.specs.View.{items_of}
use Rattle.serde_json.proofs.Views.{get_member-put}
use Rattle.sarif_model.specs.declared.kinds.State.TheVariants.{Absent}
use Rattle.sarif_model.specs.declared.record.Record.{Record}
use Rattle.sarif_model.specs.Members.{elements}
use Rattle.sarif_model.specs.Run.{elements_or_none, is_absent_result, present, results_of}
use Rattle.sarif_model.proofs.Elements.{items_back}
use Rattle.sarif_options.specs.declared.policy.Policy.{Policy}
use Rattle.sarif_entries.specs.Matching.{is_empty}
use Rattle.sarif_results.specs.Annotated.{own_suppressions}
use Rattle.sarif_log.specs.MergedRuns.{absent_runs, bare, if_any, keep_if, unmatched, with_absent, written}
use Rattle.sarif_laws.specs.Hits.{is_hit_in, stays_in, suppressions_listed}
use Rattle.sarif_laws.proofs.Left.{absent_told}

-- if it is a hit, it stays
abbrev pub StaysIfHit : Policy → Data → Type 0
StaysIfHit policy d = is_hit_in policy d ≡ stays_in policy d

module _ (policy : Policy) where
  absent_stays : (d : Data) → is_absent_result d ≡ true → StaysIfHit policy d
  absent_stays d is =
      by_tests (is_hit_in policy d) (not (is_empty (suppressions_listed d)))
      ∙ ap (λ b. is_hit_in policy d && (not (is_empty (suppressions_listed d)) || b)) (sym is)
    where
      by_tests : (a b : Bool) → a ≡ (a && (b || true))
      by_tests true true = refl
      by_tests true false = refl
      by_tests false b = refl

  written_stays : (r : Record) (d : Data) → StaysIfHit policy (written (λ _ own. own) r Absent d)
  written_stays r null = refl
  written_stays r (boolean b) = refl
  written_stays r (number n) = refl
  written_stays r (string s) = refl
  written_stays r (array ds) = refl
  written_stays r (object ms) =
      absent_stays (written (λ _ own. own) r Absent (object ms)) (absent_told r.level Absent (items_of (elements (own_suppressions ms))) ms)

  kept_stays : (keep : Bool) (d : Data) (ds : List Data) → StaysIfHit policy d → AllByRecursion (StaysIfHit policy) ds
      → AllByRecursion (StaysIfHit policy) (keep_if keep d ds)
  kept_stays true d ds here rest = (here, rest)
  kept_stays false d ds here rest = rest

  unmatched_stay : (rs : List Record) (taken : List Bool) (ds : List Data) → AllByRecursion (StaysIfHit policy) (unmatched rs taken ds)
  unmatched_stay [] taken ds = tt
  unmatched_stay (r ∷ rs) [] ds = tt
  unmatched_stay (r ∷ rs) (t ∷ taken) [] = tt
  unmatched_stay (r ∷ rs) (t ∷ taken) (d ∷ ds) =
      kept_stays (not t) (written (λ _ own. own) r Absent d) (unmatched rs taken ds) (written_stays r d) (unmatched_stay rs taken ds)

  run_stays : (ds : List Data) (run : Data) → AllByRecursion (StaysIfHit policy) ds → AllByRecursion (StaysIfHit policy) (results_of (with_absent ds run))
  run_stays ds null all = tt
  run_stays ds (boolean b) all = tt
  run_stays ds (number n) all = tt
  run_stays ds (string s) all = tt
  run_stays ds (array es) all = tt
  run_stays ds (object ms) all =
      let found : results_of (with_absent ds (object ms)) ≡ ds =
      ap (λ o. elements_or_none (option_and_then as_array o)) (get_member-put (codes "results") (array (items_of ds)) (bare ms)) ∙ items_back ds in
      subst (AllByRecursion (StaysIfHit policy)) (sym found) all

  if_any_stay : (ds : List Data) (run : Data) (runs : List Data) → AllByRecursion (StaysIfHit policy) ds
      → AllByRecursion (λ x. AllByRecursion (StaysIfHit policy) (results_of x)) runs
      → AllByRecursion (λ x. AllByRecursion (StaysIfHit policy) (results_of x)) (if_any ds run runs)
  if_any_stay [] run runs here rest = rest
  if_any_stay (d ∷ ds) run runs here rest = (run_stays (d ∷ ds) run here, rest)

  pub absent_stay : (rs : List Record) (taken : List Bool) (runs : List Data)
      → AllByRecursion (λ x. AllByRecursion (StaysIfHit policy) (results_of x)) (absent_runs rs taken runs)
  absent_stay rs taken [] = tt
  absent_stay rs taken (run ∷ runs) =
      let ds = present (results_of run) in
      let n = length ds in
      if_any_stay (unmatched (take n rs) (take n taken) ds) run (absent_runs (drop n rs) (drop n taken) runs)
      (unmatched_stay (take n rs) (take n taken) ds) (absent_stay (drop n rs) (drop n taken) runs)
