-- What is made of results with their runs, without the marked ones among them.
use Rattle.std.proofs.Common.{◌≡◌, ◌+◌, ◌||◌, ℕ, Bool, not, List, [], ◌∷◌, ◌++◌, map, take, drop, length, length-append, Option, Some, None, option_map, is_some, refl, sym, ap, ap₂, ◌∙◌}
use Rattle.std.proofs.lemmas.List.{length-map, map-append}
use Rattle.std.proofs.lemmas.Simd.{map-map}
use Rattle.std.specs.List.{flat_map, list_any}
use Rattle.serde_json.specs.Data.{Data}
use Rattle.serde_json.specs.View.{items_of}
use Rattle.sarif_change.specs.Outside.{is_outside}
use Rattle.sarif_change.specs.Places.{places_of}
use Rattle.sarif_heard.specs.Heard.{tool_run}
use Rattle.sarif_model.specs.Run.{present, results_array, results_of}
use Rattle.sarif_once.proofs.Lists.{none_left, seam}
use Rattle.sarif_outside.proofs.BareArtifacts.{bare_artifacts}
use Rattle.sarif_prepare.specs.Internal.Telling.{own_results, pair_at, present_in, with_run}
use Rattle.sarif_prepare.proofs.ToldRuns.{pairs_of_all}
use Rattle.sarif_ratings.proofs.RunsRated.{bare_rated}
use Rattle.sarif_ratings.specs.Ratings.{rating_in}
use Rattle.sarif_read.specs.Failed.{failed, invocations_in, is_unsuccessful}
use Rattle.sarif_read.specs.Unmarked.{unmarked, without_marked}
use Rattle.sarif_read.proofs.Beside.{bare_unsuccessful}
use Rattle.sarif_read.proofs.Only.{array_only, bare_only, results_without, unmarked_map}
use Rattle.sarif_runs.proofs.Unmarked.{tool_without}
use Rattle.sarif_runs.specs.Internal.Spots.{spots_from}
use Rattle.sarif_runs.specs.Judging.{run_values}
use Rattle.sarif_runs.specs.Placed.{Placed}
use Rattle.sarif_runs.specs.Unmarked.{runs_without}
use Rattle.sarif_scope.specs.Inside.{artifacts_in, is_outside_of}
use Rattle.sarif_scope.specs.declared.gated.GatedChange.{GatedChange}
use Rattle.sarif_laws_once.proofs.AbsentWithout.{ArePresentLeft}

-- ---- what a run says about its tool and about its other results

pub rated_without : (marks : List Bool) (run d : Data) → rating_in (without_marked marks run) d ≡ rating_in run d
rated_without marks run d =
    sym (bare_rated (without_marked marks run) d)
    ∙ ap (λ r. rating_in r d) (bare_only (unmarked marks (results_of run)) run)
    ∙ bare_rated run d

pub outside_without : (change : GatedChange) (marks : List Bool) (run d : Data) → is_outside_of change (without_marked marks run) d ≡ is_outside_of change run d
outside_without change marks run d =
    ap (λ places. is_outside change.changed change.roots change.scope (places_of places d))
    (sym (bare_artifacts (without_marked marks run)) ∙ ap artifacts_in (bare_only (unmarked marks (results_of run)) run) ∙ bare_artifacts run)

some_mapped : {A B : Type 0} (f : A → B) (o : Option A) → is_some (option_map f o) ≡ is_some o
some_mapped f None = refl
some_mapped f (Some a) = refl

failed_without : (marks : List Bool) (run : Data) → failed (without_marked marks run) ≡ failed run
failed_without marks run =
    let ds = unmarked marks (results_of run) in
    let unsuccessful : list_any is_unsuccessful (invocations_in (without_marked marks run)) ≡ list_any is_unsuccessful (invocations_in run) =
    sym (bare_unsuccessful (without_marked marks run)) ∙ ap (λ d. list_any is_unsuccessful (invocations_in d)) (bare_only ds run) ∙ bare_unsuccessful run in
    ap (λ b. b || not (is_some (results_array (without_marked marks run)))) unsuccessful
    ∙ ap (λ b. list_any is_unsuccessful (invocations_in run) || not b)
    (ap is_some (array_only ds run) ∙ some_mapped (λ _. items_of ds) (results_array run))

pub tools_without : (marks : List Bool) (ps : List Placed) → map tool_run (run_values (runs_without marks ps)) ≡ map tool_run (run_values ps)
tools_without marks [] = refl
tools_without marks (p ∷ ps) =
    let n = length (results_of p.run) in
    ap (λ l. tool_run (without_marked (take n marks) p.run) ∷ l) (tools_without (drop n marks) ps)
    ∙ (λ i. record { tool = tool_without (take n marks) p.run i; failed = failed_without (take n marks) p.run i } ∷ map tool_run (run_values ps))

-- ---- results with their runs

module _ {Y : Type 0} (of : Data × Data → Y) (same : (marks : List Bool) (run d : Data) → of (without_marked marks run, d) ≡ of (run, d)) where
  run_left : (marks : List Bool) (run : Data) (ms : List Bool) (ds es : List Data) → es ≡ unmarked ms ds
      → map of (with_run (without_marked marks run) es) ≡ unmarked ms (map of (with_run run ds))
  run_left marks run ms ds es is =
      ap (λ xs. map of (with_run (without_marked marks run) xs)) is
      ∙ map-map of (λ d. (without_marked marks run, d)) (unmarked ms ds)
      ∙ ap (λ (f : Data → Y). map f (unmarked ms ds)) (λ i d. same marks run d i)
      ∙ sym (unmarked_map (λ d. of (run, d)) ms ds)
      ∙ ap (unmarked ms) (sym (map-map of (λ d. (run, d)) ds))

  -- the results of a run and those of others
  run_and_others : (ms : List Bool) (run : Data) (ds : List Data) (others : List (Data × Data)) (xs ys : List Y)
      → xs ≡ unmarked (take (length ds) ms) (map of (with_run run ds)) → ys ≡ unmarked (drop (length ds) ms) (map of others)
      → xs ++ ys ≡ unmarked ms (map of (with_run run ds ++ others))
  run_and_others ms run ds others xs ys here rest =
      let long : length ds ≡ length (map of (with_run run ds)) = sym (length-map (with_run run ds) of ∙ length-map ds (λ d. (run, d))) in
      ap₂ (λ ps qs. ps ++ qs) here rest
      ∙ ap (λ n. unmarked (take n ms) (map of (with_run run ds)) ++ unmarked (drop n ms) (map of others)) long
      ∙ seam ms (map of (with_run run ds)) (map of others)
      ∙ ap (unmarked ms) (sym (map-append of (with_run run ds) others))

  pub pairs_left : (marks : List Bool) (ps : List Placed)
      → map of (flat_map own_results (run_values (runs_without marks ps))) ≡ unmarked marks (map of (flat_map own_results (run_values ps)))
  pairs_left marks [] = sym (none_left marks)
  pairs_left marks (p ∷ ps) =
      let ds = results_of p.run in
      let n = length ds in
      let run = without_marked (take n marks) p.run in
      map-append of (own_results run) (flat_map own_results (run_values (runs_without (drop n marks) ps)))
      ∙ run_and_others marks p.run ds (flat_map own_results (run_values ps)) (map of (own_results run))
      (map of (flat_map own_results (run_values (runs_without (drop n marks) ps))))
      (run_left (take n marks) p.run (take n marks) ds (results_of run) (results_without (take n marks) p.run))
      (pairs_left (drop n marks) ps)

  pub present_pairs_left : (ms marks : List Bool) (ps : List Placed) → ArePresentLeft ms (run_values ps) (run_values (runs_without marks ps))
      → map of (flat_map present_in (run_values (runs_without marks ps))) ≡ unmarked ms (map of (flat_map present_in (run_values ps)))
  present_pairs_left ms marks [] left = sym (none_left ms)
  present_pairs_left ms marks (p ∷ ps) left =
      let ds = present (results_of p.run) in
      let n = length (results_of p.run) in
      let k = length ds in
      let run = without_marked (take n marks) p.run in
      map-append of (present_in run) (flat_map present_in (run_values (runs_without (drop n marks) ps)))
      ∙ run_and_others ms p.run ds (flat_map present_in (run_values ps)) (map of (present_in run))
      (map of (flat_map present_in (run_values (runs_without (drop n marks) ps))))
      (run_left (take n marks) p.run (take k ms) ds (present (results_of run)) left.0)
      (present_pairs_left (drop k ms) (drop n marks) ps left.2)

  -- what is made of results at their places
  by_places : (ps : List Placed) → map (λ spot. of (pair_at ps spot)) (spots_from 0 ps) ≡ map of (flat_map own_results (run_values ps))
  by_places ps = sym (map-map of (pair_at ps) (spots_from 0 ps)) ∙ ap (map of) (pairs_of_all ps)

  pub places_left : (marks : List Bool) (ps : List Placed)
      → map (λ spot. of (pair_at (runs_without marks ps) spot)) (spots_from 0 (runs_without marks ps))
      ≡ unmarked marks (map (λ spot. of (pair_at ps spot)) (spots_from 0 ps))
  places_left marks ps = by_places (runs_without marks ps) ∙ pairs_left marks ps ∙ ap (unmarked marks) (sym (by_places ps))

-- as many results with their runs as results
pub present_long : (runs : List Data) → length (flat_map present_in runs) ≡ length (flat_map (λ run. present (results_of run)) runs)
present_long [] = refl
present_long (run ∷ runs) =
    length-append (present_in run) (flat_map present_in runs)
    ∙ ap₂ (λ (n k : ℕ). n + k) (length-map (present (results_of run)) (λ d. (run, d))) (present_long runs)
    ∙ sym (length-append (present (results_of run)) (flat_map (λ r. present (results_of r)) runs))
