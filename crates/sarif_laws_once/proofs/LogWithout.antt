-- The merged log without its copies is the log of the findings.
use Rattle.std.proofs.Common.{◌≡◌, ◌++◌, suc, Bool, true, false, List, [], ◌∷◌, drop, length, refl, sym, ap, ap₂, ◌∙◌}
use Rattle.std.specs.Prelude.{unwrap_or}
use Rattle.std.specs.List.{AllByRecursion, AllZip}
use Rattle.serde_json.specs.Data.{Data}
use Rattle.sarif_copies.specs.Copies.{copies_of}
use Rattle.sarif_evidence.specs.declared.version.MatchingVersion.{MatchingVersion}
use Rattle.sarif_entries.specs.File.{File}
use Rattle.sarif_model.specs.declared.record.Record.{Record}
use Rattle.sarif_model.specs.declared.kinds.State.{State}
use Rattle.sarif_model.specs.declared.kinds.State.TheVariants.{New}
use Rattle.sarif_model.specs.Run.{results_of, results_total}
use Rattle.sarif_match.specs.Partners.{partners_in}
use Rattle.sarif_results.specs.Drafts.{IsRun}
use Rattle.sarif_results.proofs.JudgedCounts.{records_of_logs}
use Rattle.sarif_runs.specs.Judging.{faults_of_runs, records_of, run_values, skips}
use Rattle.sarif_runs.specs.Placed.{Placed}
use Rattle.sarif_runs.specs.Unmarked.{runs_without}
use Rattle.sarif_suppress.specs.Limited.{limited}
use Rattle.sarif_once.specs.Once.{without_copies}
use Rattle.sarif_once.proofs.Marks.{findings_left, marked_each}
use Rattle.sarif_once.proofs.Spread.{spread_found, spread_long}
use Rattle.sarif_log.specs.Copies.{places_from}
use Rattle.sarif_log.specs.Internal.Texts.{present_results}
use Rattle.sarif_log.specs.LogBy.{current_runs, leftover_runs, listing_of, states_of, taken_of}
use Rattle.sarif_log.specs.MergedRuns.{absent_runs, merged_runs}
use Rattle.sarif_log.proofs.Sides.{records_present, states_long, taken_long}
use Rattle.sarif_prepare.specs.By.{copies_if, inputs_if, left_if, runs_counted_if}
use Rattle.sarif_prepare.specs.Once.{copies_written, current_once, findings_only, leftover_once, limited_once, marks_of_absent, marks_of_runs, runs_counted, admitted_once, states_once, taken_once}
use Rattle.sarif_prepare.proofs.CopyDrafts.{marks_of_logs}
use Rattle.sarif_prepare.proofs.Limits.{each_long, once_left, once_long}
use Rattle.sarif_inputs.specs.Faults.{faults_of}
use Rattle.sarif_inputs.specs.Inputs.{Inputs, baseline_runs, baseline_sources, input_runs, log_sources, reading_checks}
use Rattle.sarif_inputs.proofs.ReadFacts.{baseline_sides, log_sides}
use Rattle.sarif_inputs_laws.proofs.Parts.{apart_faults}
use Rattle.sarif_merge.specs.MergedLog.{file_given, runs_counted as counted_in}
use Rattle.sarif_merge.proofs.ReadObjects.{objects_in}
use Rattle.sarif_laws_once.specs.Places.{values_without, with_any, without_places}
use Rattle.sarif_laws_once.specs.WithoutPlaces.{log_without_copies}
use Rattle.sarif_laws_once.proofs.AbsentWithout.{absent_marked, all_absent_left}
use Rattle.sarif_laws_once.proofs.InputsWithout.{inputs_left, inputs_marked, values_are}
use Rattle.sarif_laws_once.proofs.Places.{IsMarked, each_without, first_of, places_out, second_of}
use Rattle.sarif_laws_once.proofs.PresentLeft.{present_are_left}

zip_long : (all : List (List Bool)) (runs : List Data) → AllZip IsMarked all runs → length all ≡ length runs
zip_long [] [] same = refl
zip_long [] (run ∷ runs) same = absurd same
zip_long (marks ∷ all) [] same = absurd same
zip_long (marks ∷ all) (run ∷ runs) same = ap suc (zip_long all runs same.1)

module _ (v : MatchingVersion) (file : File) (now before : List Placed)
    (are_now : AllByRecursion IsRun (run_values now)) (are_before : AllByRecursion IsRun (run_values before))
    (sound_now : faults_of_runs now ≡ []) (sound_before : faults_of_runs before ≡ [])
    (logs : AllByRecursion (λ p. skips p.source ≡ false) now) (baselines : AllByRecursion (λ p. skips p.source ≡ true) before) where
  abbrev cs : List Record
  cs = records_of now

  abbrev bs : List Record
  bs = records_of before

  abbrev found : List Record
  found = findings_only cs

  abbrev older : List Record
  older = findings_only bs

  -- ---- input runs

  total : length (copies_of cs) ≡ results_total (run_values now)
  total = marked_each cs ∙ records_of_logs now sound_now logs

  abbrev all_now : List (List Bool)
  all_now = marks_of_runs (copies_of cs) (run_values now)

  zip_now : AllZip IsMarked all_now (current_once v file now before)
  zip_now = inputs_marked (listing_of file) (copies_of cs) (limited_once file cs) (states_once v cs bs) (run_values now) are_now total

  left_now : each_without all_now (current_once v file now before) ≡ current_runs v file (without_copies now) (without_copies before)
  left_now =
      let limited_long = each_long cs (admitted_once file cs) (once_long file cs) in
      let states_many = spread_long New cs (states_of v found older) in
      let states_found : length (states_of v found older) ≡ length found = states_long v older (partners_in v found older) 0 found in
      inputs_left (listing_of file) (copies_of cs) (limited_once file cs) (states_once v cs bs) (run_values now) are_now total
      (limited_long ∙ sym (marked_each cs)) (states_many ∙ sym (marked_each cs))
      ∙ ap₂ (λ rs ss. merged_runs (listing_of file) rs ss (values_without (copies_of cs) (run_values now)))
      (once_left file cs) (spread_found New cs (states_of v found older) states_found)
      ∙ ap (merged_runs (listing_of file) (limited file found) (states_of v found older))
      (values_are (copies_of cs) now ∙ ap (λ ms. run_values (runs_without ms now)) (sym (marks_of_logs file now sound_now logs)))
      ∙ ap₂ (λ rs qs. merged_runs (listing_of file) (limited file rs) (states_of v rs qs) (run_values (without_copies now)))
      (sym (findings_left now)) (sym (findings_left before))

  -- ---- absent results

  abbrev taken : List Bool
  taken = taken_once v cs bs

  taken_many : length taken ≡ length (copies_of bs)
  taken_many = spread_long false bs (taken_of v found older) ∙ sym (marked_each bs)

  total_before : length (copies_of bs) ≡ length (present_results (run_values before))
  total_before = marked_each bs ∙ records_present before sound_before baselines

  abbrev all_before : List (List Bool)
  all_before = marks_of_absent taken (copies_of bs) (run_values before)

  zip_before : AllZip IsMarked all_before (leftover_once v now before)
  zip_before = absent_marked (copies_of bs) taken bs (run_values before) are_before total_before taken_many (sym (marked_each bs))

  left_before : with_any (each_without all_before (leftover_once v now before)) ≡ leftover_runs v (without_copies now) (without_copies before)
  left_before =
      all_absent_left (copies_of bs) taken bs (run_values before) (run_values (without_copies before)) are_before total_before taken_many
      (sym (marked_each bs)) (present_are_left (copies_of bs) before (marked_each bs) sound_before baselines)
      ∙ ap (λ ts. absent_runs older ts (run_values (without_copies before))) (spread_found false bs (taken_of v found older) (taken_long v found older))
      ∙ ap₂ (λ rs qs. absent_runs qs (taken_of v rs qs) (run_values (without_copies before))) (sym (findings_left now)) (sym (findings_left before))

  -- ---- both

  runs_many : length all_now ≡ length now
  runs_many = zip_long all_now (current_once v file now before) zip_now ∙ inputs_long where
    inputs_long : length (current_once v file now before) ≡ length now
    inputs_long = merged_count (limited_once file cs) (states_once v cs bs) now where
      merged_count : (rs : List Record) (ss : List State) (ps : List Placed) → length (merged_runs (listing_of file) rs ss (run_values ps)) ≡ length ps
      merged_count rs ss [] = refl
      merged_count rs ss (p ∷ ps) =
          let n = length (results_of p.run) in ap suc (merged_count (drop n rs) (drop n ss) ps)

  pub findings_there : without_places (copies_written v now before) 0 (current_once v file now before)
      ++ with_any (without_places (copies_written v now before) (length (current_once v file now before)) (leftover_once v now before))
      ≡ runs_counted v file now before
  findings_there =
      let places = places_from 0 all_now ++ places_from (length all_now) all_before in
      let same : copies_written v now before ≡ places = ap (λ n. places_from 0 all_now ++ places_from n all_before) (sym runs_many) in
      let count : length (current_once v file now before) ≡ length all_now = sym (zip_long all_now (current_once v file now before) zip_now) in
      ap₂ (λ ps n. without_places ps 0 (current_once v file now before) ++ with_any (without_places ps n (leftover_once v now before))) same count
      ∙ ap₂ (λ rs qs. rs ++ with_any qs)
      (places_out places 0 all_now (current_once v file now before) zip_now (first_of all_now all_before))
      (places_out places (length all_now) all_before (leftover_once v now before) zip_before (second_of all_now all_before))
      ∙ ap₂ (λ rs qs. rs ++ qs) left_now left_before

pub log_left : (inputs : Inputs) → faults_of inputs ≡ [] → inputs.checks.once ≡ true → log_without_copies inputs ≡ counted_in inputs
log_left inputs none once =
    let v = inputs.checks.matching in
    let file = file_given inputs in
    let now = input_runs inputs in
    let before = baseline_runs inputs in
    let fine = apart_faults inputs none in
    ap (λ b. without_places (unwrap_or (copies_if b v now before) []) 0 (inputs_if b v file now before)
    ++ with_any (without_places (unwrap_or (copies_if b v now before) []) (length (inputs_if b v file now before)) (left_if b v now before))) once
    ∙ findings_there v file now before (objects_in (log_sources inputs)) (objects_in (baseline_sources inputs)) fine.log_runs fine.older_runs
    (log_sides (reading_checks inputs) 0 inputs.logs) (baseline_sides (reading_checks inputs) 0 inputs.baselines)
    ∙ sym (ap (λ b. runs_counted_if b v file now before) once)
