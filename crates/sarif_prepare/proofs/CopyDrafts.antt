-- The drafts of findings and of copies are those of all results.
use Rattle.std.proofs.Common.{◌≡◌, ◌≤◌, suc, Bool, true, false, List, [], ◌∷◌, ◌++◌, map, length, Option, Some, None, refl, sym, ap, ◌∙◌, subst, arith}
use Rattle.std.proofs.lemmas.List.{length-map, map-append}
use Rattle.std.specs.List.{AllByRecursion, flat_map}
use Rattle.serde_json.specs.Data.{Data}
use Rattle.sarif_copies.specs.Copies.{copies_of}
use Rattle.sarif_entries.specs.File.{File}
use Rattle.sarif_log.specs.Internal.Texts.{present_results}
use Rattle.sarif_log.specs.LogBy.{limited_records, listing_of}
use Rattle.sarif_log.proofs.Limits.{all_admitted_long}
use Rattle.sarif_log.proofs.Sides.{drafts_long, records_present, results_long}
use Rattle.sarif_model.specs.Run.{results_of, results_total}
use Rattle.sarif_once.specs.Once.{copy_marks, marked, marks_in, without_copies}
use Rattle.sarif_once.proofs.Items.{all_items_left, each_left, outcomes_total}
use Rattle.sarif_once.proofs.Faults.{none_faulty}
use Rattle.sarif_once.proofs.Parts.{sources_left}
use Rattle.sarif_once.proofs.Marks.{findings_left, marked_each, marks_long, records_are}
use Rattle.sarif_once.proofs.Spread.{spread_found}
use Rattle.sarif_read.specs.Unmarked.{unmarked}
use Rattle.sarif_read.proofs.Only.{results_without}
use Rattle.sarif_results.specs.Drafts.{applied_of, draft_by, drafts_by, members_in, unapplied}
use Rattle.sarif_results.specs.Internal.Outcomes.{all_outcomes}
use Rattle.sarif_results.specs.declared.draft.Draft.{Draft}
use Rattle.sarif_results.specs.declared.outcome.Outcome.{Outcome}
use Rattle.sarif_results.proofs.JudgedCounts.{records_of_logs}
use Rattle.sarif_results.proofs.OutcomeItems.{all_items}
use Rattle.sarif_suppress.specs.Limited.{all_admitted, limited}
use Rattle.sarif_runs.specs.declared.item.Item.{Item}
use Rattle.sarif_runs.specs.declared.item.Item.TheVariants.{Sound, Bad, Skipped}
use Rattle.sarif_runs.specs.declared.spots.Spot.{Spot}
use Rattle.sarif_runs.specs.Internal.Spots.{spots_from}
use Rattle.sarif_runs.specs.Judging.{faults_of_runs, items_of, records_in, records_of, run_values, skips}
use Rattle.sarif_runs.specs.Placed.{Placed}
use Rattle.sarif_prepare.specs.Internal.Apart.{copy_drafts, current_drafts}
use Rattle.sarif_prepare.specs.Internal.Baselines.{baseline_drafts, spots_with_record}
use Rattle.sarif_prepare.specs.Internal.Halves.{drafts_in, with_draft}
use Rattle.sarif_prepare.specs.Internal.Leftover.{found_at}
use Rattle.sarif_prepare.specs.Internal.Limiting.{drafts_of, AreChanges, AreDraftsOf}
use Rattle.sarif_prepare.specs.Once.{findings_only, limited_once, admitted_once}
use Rattle.sarif_prepare.specs.declared.changes.Changes.{Changes}
use Rattle.sarif_prepare.proofs.Limits.{changes_made, drafts_left, drafts_unmarked, each_long, once_left, once_long}
use Rattle.sarif_prepare.specs.Internal.Telling.{own_results}
use Rattle.sarif_prepare.proofs.BaselineSpots.{all_long, found_at_pairs, pairs_at_spots, results_at, results_with}
use Rattle.sarif_prepare.proofs.FoundDrafts.{current_drafts as drafts_found}
use Rattle.sarif_prepare.proofs.ToldRuns.{pairs_of_all}

-- ---- results of logs

drafts_few : (os : List Outcome) → length (drafts_in os) ≤ length os
drafts_few [] = omega arith
drafts_few (o ∷ os) = one o.draft (drafts_few os) where
  one : (d : Option Draft) → length (drafts_in os) ≤ length os → length (with_draft d (drafts_in os)) ≤ suc (length os)
  one None few = omega (arith, few)
  one (Some d) few = omega (arith, few)

-- where each outcome has a draft
drafts_marked : (ms : List Bool) (os : List Outcome) → length (drafts_in os) ≡ length os → drafts_in (marked ms os) ≡ marked ms (drafts_in os)
drafts_marked [] os same = refl
drafts_marked (m ∷ ms) [] same = refl
drafts_marked (m ∷ ms) (o ∷ os) same = one m o.draft refl same (drafts_marked ms os) where
  one : (m : Bool) (d : Option Draft) → o.draft ≡ d → length (with_draft d (drafts_in os)) ≡ suc (length os)
      → (length (drafts_in os) ≡ length os → drafts_in (marked ms os) ≡ marked ms (drafts_in os))
      → drafts_in (marked (m ∷ ms) (o ∷ os)) ≡ marked (m ∷ ms) (with_draft d (drafts_in os))
  one m None is same more = let few = drafts_few os in absurd (omega (arith, few, same))
  one true (Some d) is same more = ap (λ x. with_draft x (drafts_in (marked ms os))) is ∙ ap (λ ds. d ∷ ds) (more (omega (arith, same)))
  one false (Some d) is same more = more (omega (arith, same))

records_few : (items : List Item) → length (records_in items) ≤ length items
records_few [] = omega arith
records_few (Sound r ∷ items) = let rest = records_few items in omega (arith, rest)
records_few (Bad fault ∷ items) = let rest = records_few items in omega (arith, rest)
records_few (Skipped ∷ items) = let rest = records_few items in omega (arith, rest)

-- where each result has a record
all_marked : (items : List Item) (ms : List Bool) → length (records_in items) ≡ length items → length ms ≡ length items → marks_in items ms ≡ ms
all_marked [] [] sound same = refl
all_marked [] (m ∷ ms) sound same = absurd (omega (arith, same))
all_marked (Sound r ∷ items) [] sound same = absurd (omega (arith, same))
all_marked (Sound r ∷ items) (m ∷ ms) sound same = ap (λ xs. m ∷ xs) (all_marked items ms (omega (arith, sound)) (omega (arith, same)))
all_marked (Bad fault ∷ items) ms sound same = let few = records_few items in absurd (omega (arith, few, sound))
all_marked (Skipped ∷ items) ms sound same = let few = records_few items in absurd (omega (arith, few, sound))

values_flat : (ps : List Placed) → flat_map (λ p. results_of p.run) ps ≡ flat_map results_of (run_values ps)
values_flat [] = refl
values_flat (p ∷ ps) = ap (λ ds. results_of p.run ++ ds) (values_flat ps)

results_left : (ps : List Placed)
    → flat_map results_of (run_values (without_copies ps)) ≡ unmarked (copy_marks ps) (flat_map results_of (run_values ps))
results_left ps =
    sym (values_flat (without_copies ps))
    ∙ each_left (λ p. results_of p.run) (λ p. refl) (λ marks p. results_without marks p.run) (copy_marks ps) ps
    ∙ ap (unmarked (copy_marks ps)) (values_flat ps)

items_total : (file : File) (ps : List Placed) → length (flat_map items_of ps) ≡ results_total (run_values ps)
items_total file ps =
    sym (ap length (all_items file ps)) ∙ length-map (all_outcomes file ps) (λ o. o.item) ∙ outcomes_total file ps

-- there is a mark for each result
pub marks_total : (file : File) (ps : List Placed) → length (copy_marks ps) ≡ results_total (run_values ps)
marks_total file ps = marks_long (flat_map items_of ps) (copies_of (records_of ps)) ∙ items_total file ps

pub outcomes_many : (file : File) (ps : List Placed) → length (copy_marks ps) ≡ length (all_outcomes file ps)
outcomes_many file ps = marks_total file ps ∙ sym (outcomes_total file ps)

module _ (file : File) (ps : List Placed) (sound : faults_of_runs ps ≡ []) (logs : AllByRecursion (λ p. skips p.source ≡ false) ps) where
  pub marks_of_logs : copy_marks ps ≡ copies_of (records_of ps)
  marks_of_logs =
      let records = records_of_logs ps sound logs in
      let same = ap length (records_are ps) in
      let marks = marked_each (records_of ps) in
      all_marked (flat_map items_of ps) (copies_of (records_of ps)) (omega (arith, items_total file ps, records, same)) (omega (arith, items_total file ps, records, marks))

  pub results_found : flat_map results_of (run_values (without_copies ps)) ≡ unmarked (copies_of (records_of ps)) (flat_map results_of (run_values ps))
  results_found = results_left ps ∙ ap (λ ms. unmarked ms (flat_map results_of (run_values ps))) marks_of_logs

  -- as many results as records
  pub as_many : length (flat_map results_of (run_values ps)) ≡ length (records_of ps)
  as_many = results_long (run_values ps) ∙ sym (records_of_logs ps sound logs)

  pub copied_drafts : drafts_in (marked (copy_marks ps) (all_outcomes file ps))
      ≡ marked (copies_of (records_of ps)) (drafts_of file (records_of ps) (flat_map results_of (run_values ps)))
  copied_drafts =
      let rs = records_of ps in
      let ds = flat_map results_of (run_values ps) in
      let found = drafts_found file ps sound logs in
      let records = records_of_logs ps sound logs in
      let drafts = ap length found ∙ drafts_long (listing_of file) (applied_of file) rs ds (sym as_many) in
      let outcomes = outcomes_total file ps in
      drafts_marked (copy_marks ps) (all_outcomes file ps) (drafts ∙ records ∙ sym outcomes)
      ∙ ap (marked (copy_marks ps)) found
      ∙ ap (λ ms. marked ms (drafts_of file rs ds)) marks_of_logs

  -- the drafts of the findings
  pub found_drafts : drafts_of file (limited_records file (without_copies ps)) (flat_map results_of (run_values (without_copies ps)))
      ≡ unmarked (copies_of (records_of ps)) (current_drafts file ps)
  found_drafts =
      let rs = records_of ps in
      let ms = copies_of rs in
      let ds = flat_map results_of (run_values ps) in
      let many = each_long rs (admitted_once file rs) (once_long file rs) in
      ap (λ qs. drafts_of file (limited file qs) (flat_map results_of (run_values (without_copies ps)))) (findings_left ps)
      ∙ ap (λ qs. drafts_of file qs (flat_map results_of (run_values (without_copies ps)))) (sym (once_left file rs))
      ∙ ap (drafts_of file (unmarked ms (limited_once file rs))) results_found
      ∙ drafts_unmarked (listing_of file) (applied_of file) ms (limited_once file rs) ds (many ∙ sym as_many)

  -- what changes for the findings is what changes where they alone are counted
  pub found_changes : (changes : Changes) (again : List (Option Draft))
      → changes.admitted.items ≡ all_admitted file (findings_only (records_of ps))
      → changes.drafts.items ≡ unmarked (copies_of (records_of ps)) again
      → AreDraftsOf file (records_of ps) (admitted_once file (records_of ps)) (flat_map results_of (run_values ps)) again
      → AreChanges file (records_of (without_copies ps)) (all_admitted file (records_of (without_copies ps)))
      (flat_map results_of (run_values (without_copies ps))) changes
  found_changes changes again admitted_is drafts_are is =
      let rs = records_of ps in
      let ms = copies_of rs in
      let ds = flat_map results_of (run_values ps) in
      let found = findings_only rs in
      let lists = spread_found [] rs (all_admitted file found) (all_admitted_long file found) in
      let left : AreDraftsOf file found (all_admitted file found) (unmarked ms ds) changes.drafts.items =
      subst (AreDraftsOf file found (all_admitted file found) (unmarked ms ds)) (sym drafts_are)
      (subst (λ ls. AreDraftsOf file found ls (unmarked ms ds) (unmarked ms again)) lists
      (drafts_left file ms rs (admitted_once file rs) ds again (once_long file rs) as_many is)) in
      subst (λ qs. AreChanges file qs (all_admitted file qs) (flat_map results_of (run_values (without_copies ps))) changes) (sym (findings_left ps))
      (subst (λ es. AreChanges file found (all_admitted file found) es changes) (sym results_found)
      (changes_made file found (all_admitted file found) (unmarked ms ds) changes admitted_is left (all_admitted_long file found)))

-- ---- results of baselines

-- the results with a record
abbrev with_found : {X : Type 0} → Item → X → List X → List X
with_found (Sound r) x xs = x ∷ xs
with_found (Bad fault) x xs = xs
with_found Skipped x xs = xs

abbrev recorded : {X : Type 0} → List Item → List X → List X
recorded [] xs = []
recorded (item ∷ items) [] = []
recorded (item ∷ items) (x ∷ xs) = with_found item x (recorded items xs)

recorded_spots : {X : Type 0} (f : Spot → X) (items : List Item) (spots : List Spot) → map f (spots_with_record items spots) ≡ recorded items (map f spots)
recorded_spots f [] spots = refl
recorded_spots f (item ∷ items) [] = refl
recorded_spots f (Sound r ∷ items) (spot ∷ spots) = ap (λ xs. f spot ∷ xs) (recorded_spots f items spots)
recorded_spots f (Bad fault ∷ items) (spot ∷ spots) = recorded_spots f items spots
recorded_spots f (Skipped ∷ items) (spot ∷ spots) = recorded_spots f items spots

copies_recorded : (items : List Item) (ms : List Bool) (ds : List Data) → length ms ≡ length (records_in items) → length ds ≡ length items
    → copy_drafts (marks_in items ms) items ds ≡ marked ms (drafts_by (λ _ own. own) unapplied (records_in items) (recorded items ds))
copies_recorded [] [] ds same_m same_d = refl
copies_recorded [] (m ∷ ms) ds same_m same_d = absurd (omega (arith, same_m))
copies_recorded (item ∷ items) ms [] same_m same_d = absurd (omega (arith, same_d))
copies_recorded (Sound r ∷ items) [] (d ∷ ds) same_m same_d = absurd (omega (arith, same_m))
copies_recorded (Sound r ∷ items) (true ∷ ms) (d ∷ ds) same_m same_d =
    ap (λ xs. draft_by (λ _ own. own) unapplied r (members_in d) ∷ xs) (copies_recorded items ms ds (omega (arith, same_m)) (omega (arith, same_d)))
copies_recorded (Sound r ∷ items) (false ∷ ms) (d ∷ ds) same_m same_d = copies_recorded items ms ds (omega (arith, same_m)) (omega (arith, same_d))
copies_recorded (Bad fault ∷ items) ms (d ∷ ds) same_m same_d = copies_recorded items ms ds same_m (omega (arith, same_d))
copies_recorded (Skipped ∷ items) ms (d ∷ ds) same_m same_d = copies_recorded items ms ds same_m (omega (arith, same_d))

recorded_left : {X : Type 0} (items : List Item) (ms : List Bool) (xs : List X) → length ms ≡ length (records_in items) → length xs ≡ length items
    → recorded (unmarked (marks_in items ms) items) (unmarked (marks_in items ms) xs) ≡ unmarked ms (recorded items xs)
recorded_left [] [] xs same_m same_x = refl
recorded_left [] (m ∷ ms) xs same_m same_x = absurd (omega (arith, same_m))
recorded_left (item ∷ items) ms [] same_m same_x = absurd (omega (arith, same_x))
recorded_left (Sound r ∷ items) [] (x ∷ xs) same_m same_x = absurd (omega (arith, same_m))
recorded_left (Sound r ∷ items) (true ∷ ms) (x ∷ xs) same_m same_x = recorded_left items ms xs (omega (arith, same_m)) (omega (arith, same_x))
recorded_left (Sound r ∷ items) (false ∷ ms) (x ∷ xs) same_m same_x =
    ap (λ ys. x ∷ ys) (recorded_left items ms xs (omega (arith, same_m)) (omega (arith, same_x)))
recorded_left (Bad fault ∷ items) ms (x ∷ xs) same_m same_x = recorded_left items ms xs same_m (omega (arith, same_x))
recorded_left (Skipped ∷ items) ms (x ∷ xs) same_m same_x = recorded_left items ms xs same_m (omega (arith, same_x))

-- all results of runs
seconds : (runs : List Data) → map (λ p. p.1) (flat_map own_results runs) ≡ flat_map results_of runs
seconds [] = refl
seconds (run ∷ runs) =
    map-append (λ (p : Data × Data). p.1) (own_results run) (flat_map own_results runs)
    ∙ ap (λ ds. ds ++ map (λ p. p.1) (flat_map own_results runs)) (results_with run (results_of run))
    ∙ ap (λ ds. results_of run ++ ds) (seconds runs)

pub all_found : (ps : List Placed) → map (found_at ps) (spots_from 0 ps) ≡ flat_map results_of (run_values ps)
all_found ps =
    sym (results_at ps (spots_from 0 ps)) ∙ ap (map (λ p. p.1)) (pairs_of_all ps) ∙ seconds (run_values ps)

present_recorded : (ps : List Placed) → faults_of_runs ps ≡ [] → AllByRecursion (λ p. skips p.source ≡ true) ps
    → recorded (flat_map items_of ps) (flat_map results_of (run_values ps)) ≡ present_results (run_values ps)
present_recorded ps sound baselines =
    sym (ap (recorded (flat_map items_of ps)) (all_found ps))
    ∙ sym (recorded_spots (found_at ps) (flat_map items_of ps) (spots_from 0 ps))
    ∙ found_at_pairs ps (spots_with_record (flat_map items_of ps) (spots_from 0 ps)) (pairs_at_spots ps baselines sound)

module _ (ps : List Placed) (sound : faults_of_runs ps ≡ []) (baselines : AllByRecursion (λ p. skips p.source ≡ true) ps) where
  -- as many results as items, and as many marks as records
  results_many : length (flat_map results_of (run_values ps)) ≡ length (flat_map items_of ps)
  results_many = sym (ap length (all_found ps)) ∙ length-map (spots_from 0 ps) (found_at ps) ∙ sym (all_long ps 0)

  marks_many : length (copies_of (records_of ps)) ≡ length (records_in (flat_map items_of ps))
  marks_many = marked_each (records_of ps) ∙ sym (ap length (records_are ps))

  pub present_left : present_results (run_values (without_copies ps)) ≡ unmarked (copies_of (records_of ps)) (present_results (run_values ps))
  present_left =
      sym (present_recorded (without_copies ps) (none_faulty (copy_marks ps) ps sound) (sources_left true (copy_marks ps) ps baselines))
      ∙ ap (λ items. recorded items (flat_map results_of (run_values (without_copies ps)))) (all_items_left (copy_marks ps) ps)
      ∙ ap (recorded (unmarked (copy_marks ps) (flat_map items_of ps))) (results_left ps)
      ∙ recorded_left (flat_map items_of ps) (copies_of (records_of ps)) (flat_map results_of (run_values ps)) marks_many results_many
      ∙ ap (unmarked (copies_of (records_of ps))) (present_recorded ps sound baselines)

  -- the drafts of the findings
  pub found_before : baseline_drafts (without_copies ps) ≡ unmarked (copies_of (records_of ps)) (baseline_drafts ps)
  found_before =
      ap (λ rs. drafts_by (λ _ own. own) unapplied rs (present_results (run_values (without_copies ps)))) (findings_left ps)
      ∙ ap (drafts_by (λ _ own. own) unapplied (unmarked (copies_of (records_of ps)) (records_of ps))) present_left
      ∙ drafts_unmarked (λ _ own. own) unapplied (copies_of (records_of ps)) (records_of ps) (present_results (run_values ps))
      (records_present ps sound baselines)

  -- the drafts of the copies
  pub copied_before : (items : List Item) (ds : List Data) → items ≡ flat_map items_of ps → ds ≡ map (found_at ps) (spots_from 0 ps)
      → copy_drafts (copy_marks ps) items ds ≡ marked (copies_of (records_of ps)) (baseline_drafts ps)
  copied_before items ds are found =
      ap (λ is. copy_drafts (copy_marks ps) is ds) are
      ∙ ap (copy_drafts (copy_marks ps) (flat_map items_of ps)) (found ∙ all_found ps)
      ∙ copies_recorded (flat_map items_of ps) (copies_of (records_of ps)) (flat_map results_of (run_values ps)) marks_many results_many
      ∙ ap (λ rs. marked (copies_of (records_of ps)) (drafts_by (λ _ own. own) unapplied rs
      (recorded (flat_map items_of ps) (flat_map results_of (run_values ps))))) (records_are ps)
      ∙ ap (λ es. marked (copies_of (records_of ps)) (drafts_by (λ _ own. own) unapplied (records_of ps) es)) (present_recorded ps sound baselines)
