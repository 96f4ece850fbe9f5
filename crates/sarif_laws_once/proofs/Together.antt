-- Counts and copies together are the results of the merged log.
use Rattle.std.proofs.Common.{◌≡◌, ◌+◌, Bool, true, false, List, [], length, option_map, unwrap_or, sym, ap, ap₂, ◌∙◌, arith}
use Rattle.std.specs.List.{AllByRecursion}
use Rattle.std.proofs.lemmas.List.{length-append}
use Rattle.sarif_model.specs.declared.record.Record.{Record}
use Rattle.sarif_model.specs.Run.{results_total}
use Rattle.sarif_entries.specs.File.{File}
use Rattle.sarif_copies.specs.Copies.{copies_of}
use Rattle.sarif_suppress.specs.Limited.{limited}
use Rattle.sarif_counts.specs.CountOf.{count_of}
use Rattle.sarif_evidence.specs.declared.version.MatchingVersion.{MatchingVersion}
use Rattle.sarif_read.specs.Unmarked.{unmarked}
use Rattle.sarif_runs.specs.Judging.{faults_of_runs, records_of, run_values, skips}
use Rattle.sarif_runs.specs.Placed.{Placed}
use Rattle.sarif_results.specs.Drafts.{IsRun}
use Rattle.sarif_results.proofs.JudgedCounts.{records_of_logs}
use Rattle.sarif_once.specs.Once.{copy_marks, without_copies}
use Rattle.sarif_once.proofs.Faults.{none_faulty}
use Rattle.sarif_once.proofs.Marks.{findings_left, marked_each}
use Rattle.sarif_once.proofs.Parts.{runs_left, sources_left}
use Rattle.sarif_once.proofs.Spread.{spread_found, spread_long}
use Rattle.sarif_log.specs.LogBy.{current_runs, leftover_runs, listing_of, states_of, taken_of}
use Rattle.sarif_log.specs.Copies.{places_from}
use Rattle.sarif_log.proofs.Sides.{records_present, taken_long}
use Rattle.sarif_prepare.specs.By.{copies_if, runs_counted_if, written_if}
use Rattle.sarif_prepare.specs.Once.{copies_written, current_once, findings_only, leftover_once, limited_once, marks_of_absent, marks_of_runs, states_once, taken_once}
use Rattle.sarif_inputs.specs.Faults.{faults_of}
use Rattle.sarif_inputs.specs.Inputs.{Inputs, baseline_runs, baseline_sources, input_runs, log_sources, reading_checks}
use Rattle.sarif_inputs_laws.proofs.Parts.{apart_faults}
use Rattle.sarif_inputs.proofs.ReadFacts.{baseline_sides, log_sides}
use Rattle.sarif_merge.specs.MergedLog.{file_given, runs_counted, runs_in_log}
use Rattle.sarif_merge.proofs.OwnResult.{faultless_runs}
use Rattle.sarif_merge.proofs.ReadObjects.{objects_in}
use Rattle.sarif_laws_once.specs.Totals.{copies_named, results_counted}
use Rattle.sarif_laws_once.proofs.Apart.{all_apart, left_apart, set_in, unset_in}
use Rattle.sarif_laws_once.proofs.Placed.{places_before, places_now}
use Rattle.sarif_laws_once.proofs.Written.{absent_long, counted_all, merged_long, total_joined}

module _ (v : MatchingVersion) (file : File) (now before : List Placed)
    (are_now : AllByRecursion IsRun (run_values now)) (are_before : AllByRecursion IsRun (run_values before))
    (sound_now : faults_of_runs now ≡ []) (sound_before : faults_of_runs before ≡ [])
    (logs : AllByRecursion (λ p. skips p.source ≡ false) now) (baselines : AllByRecursion (λ p. skips p.source ≡ true) before) where
  abbrev cs : List Record
  cs = records_of now

  abbrev bs : List Record
  bs = records_of before

  records_now : length cs ≡ results_total (run_values now)
  records_now = records_of_logs now sound_now logs

  -- ---- where copies are counted

  each_counted : results_total (written_if false v file now before) ≡ results_counted (count_of (runs_counted_if false v file now before)) + 0
  each_counted =
      let ts = taken_of v cs bs in
      let written = total_joined (current_runs v file now before) (leftover_runs v now before) in
      let here = merged_long (listing_of file) (limited file cs) (states_of v cs bs) (run_values now) are_now in
      let left = absent_long bs ts (run_values before) are_before (records_present before sound_before baselines) (taken_long v cs bs) in
      let counted = counted_all v file now before are_now are_before sound_now sound_before logs baselines in
      omega (arith, written, here, left, counted, records_now)

  -- ---- where they aren't

  abbrev taken : List Bool
  taken = taken_once v cs bs

  taken_all : length taken ≡ length bs
  taken_all = spread_long false bs (taken_of v (findings_only cs) (findings_only bs))

  written_all : results_total (written_if true v file now before) ≡ length cs + unset_in taken
  written_all =
      let written = total_joined (current_once v file now before) (leftover_once v now before) in
      let here = merged_long (listing_of file) (limited_once file cs) (states_once v cs bs) (run_values now) are_now in
      let left = absent_long bs taken (run_values before) are_before (records_present before sound_before baselines) taken_all in
      omega (arith, written, here, left, records_now)

  -- the findings that are left
  found : unmarked (copies_of bs) taken ≡ taken_of v (findings_only cs) (findings_only bs)
  found = spread_found false bs (taken_of v (findings_only cs) (findings_only bs)) (taken_long v (findings_only cs) (findings_only bs))

  findings_counted : results_counted (count_of (runs_counted_if true v file now before))
      ≡ length (findings_only cs) + unset_in (unmarked (copies_of bs) taken)
  findings_counted =
      counted_all v file (without_copies now) (without_copies before) (runs_left (copy_marks now) now are_now)
      (runs_left (copy_marks before) before are_before) (none_faulty (copy_marks now) now sound_now)
      (none_faulty (copy_marks before) before sound_before) (sources_left false (copy_marks now) now logs)
      (sources_left true (copy_marks before) before baselines)
      ∙ ap₂ (λ rs qs. length rs + unset_in (taken_of v rs qs)) (findings_left now) (findings_left before)
      ∙ ap (λ ts. length (findings_only cs) + unset_in ts) (sym found)

  copies_placed : length (copies_written v now before) ≡ set_in (copies_of cs) + set_in (unmarked taken (copies_of bs))
  copies_placed =
      let both =
      length-append (places_from 0 (marks_of_runs (copies_of cs) (run_values now)))
      (places_from (length now) (marks_of_absent taken (copies_of bs) (run_values before))) in
      let here = places_now 0 (copies_of cs) (run_values now) (marked_each cs ∙ records_now) in
      let left =
      places_before (length now) taken (copies_of bs) (run_values before) (taken_all ∙ sym (marked_each bs))
      (taken_all ∙ records_present before sound_before baselines) in
      omega (arith, both, here, left)

  findings_and_copies : results_total (written_if true v file now before)
      ≡ results_counted (count_of (runs_counted_if true v file now before)) + length (copies_written v now before)
  findings_and_copies =
      let here = all_apart (copies_of cs) cs (marked_each cs) in
      let left = left_apart taken (copies_of bs) (taken_all ∙ sym (marked_each bs)) in
      omega (arith, written_all, findings_counted, copies_placed, here, left)

  pub all_results : (once : Bool) → results_total (written_if once v file now before)
      ≡ results_counted (count_of (runs_counted_if once v file now before)) + unwrap_or (option_map length (copies_if once v now before)) 0
  all_results true = findings_and_copies
  all_results false = each_counted

-- ---- inputs

faultless_before : (inputs : Inputs) → faults_of inputs ≡ [] → faults_of_runs (baseline_runs inputs) ≡ []
faultless_before inputs none = (apart_faults inputs none).older_runs

pub results_together : (inputs : Inputs) → faults_of inputs ≡ []
    → results_total (runs_in_log inputs) ≡ results_counted (count_of (runs_counted inputs)) + copies_named inputs
results_together inputs none =
    all_results inputs.checks.matching (file_given inputs) (input_runs inputs) (baseline_runs inputs)
    (objects_in (log_sources inputs)) (objects_in (baseline_sources inputs))
    (faultless_runs inputs none) (faultless_before inputs none)
    (log_sides (reading_checks inputs) 0 inputs.logs) (baseline_sides (reading_checks inputs) 0 inputs.baselines) inputs.checks.once
