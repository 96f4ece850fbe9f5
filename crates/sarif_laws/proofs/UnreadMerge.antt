-- In version 2 of matching, records may have regions and snippets that nothing reads.
use Rattle.std.proofs.Common.{◌≡◌, ◌++◌, ◌||◌, ℕ, Bool, true, false, List, [], ◌∷◌, map, refl, sym, ap, ap₂, ◌∙◌, append-nil}
use Rattle.std.proofs.lemmas.List.Concat.{flat_map-append}
use Rattle.std.specs.Prelude.{is_some}
use Rattle.serde_json.specs.Data.{Data}
use Rattle.sarif_model.specs.declared.merge_fault.Source.{Source}
use Rattle.sarif_model.specs.declared.merge_fault.Source.TheVariants.{Log, Baseline}
use Rattle.sarif_model.specs.declared.record.Record.{Record}
use Rattle.sarif_evidence.specs.declared.version.MatchingVersion.{MatchingVersion}
use Rattle.sarif_evidence.specs.declared.version.MatchingVersion.TheVariants.{Two}
use Rattle.sarif_entries.specs.File.{File}
use Rattle.sarif_entries.specs.Given.{file_or_none}
use Rattle.sarif_inputs.specs.ChangeIn.{change_read, faults_of_change}
use Rattle.sarif_inputs.specs.Faults.{faults_of, file_faults, number_faults}
use Rattle.sarif_inputs.specs.PolicyIn.{faults_of_policy, policy_read}
use Rattle.sarif_inputs.specs.Inputs.{Inputs, all_runs, all_sources, baseline_runs, input_runs, looks_at_regions, numbered, placed, reading_checks}
use Rattle.sarif_inputs.specs.Snippets.{compares_snippets, with_regions, with_regions_if}
use Rattle.sarif_inputs.specs.SourceFaults.{source_faults}
use Rattle.sarif_inputs.proofs.ReadAgain.{faults_read, regions_read, values_read}
use Rattle.sarif_known_laws.proofs.BareRecords.{bare, faults_bare}
use Rattle.sarif_log.specs.LogBy.{listing_of, states_of, taken_of}
use Rattle.sarif_log.specs.MergedRuns.{absent_runs, merged_runs}
use Rattle.sarif_merge.specs.MergedLog.{current_of, file_given, runs_written, unused_in}
use Rattle.sarif_merge.specs.OwnResult.{baseline_of}
use Rattle.sarif_runs.specs.Judging.{faults_of_runs, records_of, run_faults, run_values}
use Rattle.sarif_runs.specs.Placed.{Placed}
use Rattle.sarif_suppress.specs.Limited.{limited}
use Rattle.sarif_suppress.specs.Suppressing.{unused_of}
use Rattle.sarif_laws.specs.Snippets.{IsSameMerge, with_snippets}
use Rattle.sarif_laws.proofs.Pruned.{alike_runs}
use Rattle.sarif_laws.proofs.SameLogs.{all_bare}
use Rattle.sarif_laws.proofs.UnreadSnippets.{absent_bare, limited_bare, listed_bare, states_bare, taken_bare, unused_bare}

-- ---- the errors of runs

faults_with : (runs : List Placed) → faults_of_runs (map with_regions runs) ≡ faults_of_runs runs
faults_with [] = refl
faults_with (p ∷ ps) = ap₂ (λ xs ys. xs ++ ys) (sym (faults_bare (with_regions p)) ∙ faults_bare p) (faults_with ps)

faults_if : (wanted : Bool) (runs : List Placed) → faults_of_runs (with_regions_if wanted runs) ≡ faults_of_runs runs
faults_if true runs = faults_with runs
faults_if false runs = refl

-- ---- the merge

-- the runs of a merged log by the records of its results
abbrev written_by : MatchingVersion → File → List Record → List Record → List Data → List Data → List Data
written_by v file cs bs runs old =
    merged_runs (listing_of file) (limited file cs) (states_of v cs bs) runs ++ absent_runs bs (taken_of v cs bs) old

written_bare : (file : File) → compares_snippets file ≡ false → (cs bs : List Record) (runs old : List Data)
    → written_by Two file (map bare cs) (map bare bs) runs old ≡ written_by Two file cs bs runs old
written_bare file none cs bs runs old =
    let rs = limited file cs in
    ap₂ (λ xs ys. xs ++ ys)
    (ap₂ (λ qs states. merged_runs (listing_of file) qs states runs) (limited_bare file none cs) (states_bare cs bs)
    ∙ alike_runs (listing_of file) (listing_of file) (map bare rs) rs (states_of Two cs bs) runs (listed_bare file none rs))
    (ap (λ taken. absent_runs (map bare bs) taken old) (taken_bare cs bs) ∙ absent_bare bs (taken_of Two cs bs) old)

module _ (inputs : Inputs) (two : inputs.checks.matching ≡ Two) (all : inputs.checks.once ≡ false) (none : compares_snippets (file_given inputs) ≡ false) where
  abbrev plain : Inputs
  plain = with_snippets false inputs

  blind : (looks_at_regions inputs.checks.matching || inputs.checks.once) ≡ false
  blind = ap₂ (λ v once. looks_at_regions v || once) two all

  records_plain : (name : ℕ → Source) (sources : List (List ℕ))
      → records_of (placed (numbered inputs.checks name 0 sources)) ≡ map bare (records_of (placed (numbered (reading_checks inputs) name 0 sources)))
  records_plain name sources =
      all_bare inputs.checks.once (reading_checks inputs) (λ i. record { regions = blind i; ignored = inputs.checks.ignored }) name 0 sources

  values_plain : (name : ℕ → Source) (sources : List (List ℕ))
      → run_values (placed (numbered inputs.checks name 0 sources)) ≡ run_values (placed (numbered (reading_checks inputs) name 0 sources))
  values_plain name sources =
      sym (values_read inputs.snippets (placed (numbered inputs.checks name 0 sources)))
      ∙ ap run_values (regions_read inputs.snippets inputs.checks name 0 sources)

  faults_plain : (name : ℕ → Source) (sources : List (List ℕ))
      → faults_of_runs (placed (numbered inputs.checks name 0 sources)) ≡ faults_of_runs (placed (numbered (reading_checks inputs) name 0 sources))
  faults_plain name sources =
      sym (faults_if inputs.snippets (placed (numbered inputs.checks name 0 sources)))
      ∙ ap faults_of_runs (regions_read inputs.snippets inputs.checks name 0 sources)

  current_is : current_of plain ≡ map bare (current_of inputs)
  current_is = records_plain Log inputs.logs

  baseline_is : baseline_of plain ≡ map bare (baseline_of inputs)
  baseline_is = records_plain Baseline inputs.baselines

  same_written : runs_written plain ≡ runs_written inputs
  same_written =
      let file = file_given inputs in
      let runs = run_values (input_runs inputs) in
      let old = run_values (baseline_runs inputs) in
      ap₂ (written_by inputs.checks.matching file (current_of plain) (baseline_of plain)) (values_plain Log inputs.logs) (values_plain Baseline inputs.baselines)
      ∙ ap₂ (λ cs bs. written_by inputs.checks.matching file cs bs runs old) current_is baseline_is
      ∙ ap (λ v. written_by v file (map bare (current_of inputs)) (map bare (baseline_of inputs)) runs old) two
      ∙ written_bare file none (current_of inputs) (baseline_of inputs) runs old
      ∙ sym (ap (λ v. written_by v file (current_of inputs) (baseline_of inputs) runs old) two)

  same_unused : unused_in plain ≡ unused_in inputs
  same_unused =
      let file = file_given inputs in
      ap (λ rs. unused_of file (limited file rs)) current_is
      ∙ ap (unused_of file) (limited_bare file none (current_of inputs))
      ∙ unused_bare file none (limited file (current_of inputs))

  same_sources : source_faults 0 0 (all_sources plain) ≡ source_faults 0 0 (all_sources inputs)
  same_sources =
      let once = inputs.snippets || inputs.checks.once in
      let old = numbered inputs.checks Baseline 0 inputs.baselines in
      let new = numbered (reading_checks inputs) Baseline 0 inputs.baselines in
      faults_read once inputs.checks Log 0 inputs.logs old new
      (λ runs results. sym (ap (source_faults runs results) (append-nil old))
      ∙ faults_read once inputs.checks Baseline 0 inputs.baselines [] [] (λ _ _. refl) runs results
      ∙ ap (source_faults runs results) (append-nil new))
      0 0

  same_runs : faults_of_runs (all_runs plain) ≡ faults_of_runs (all_runs inputs)
  same_runs =
      flat_map-append run_faults (input_runs plain) (baseline_runs plain)
      ∙ ap₂ (λ xs ys. xs ++ ys) (faults_plain Log inputs.logs) (faults_plain Baseline inputs.baselines)
      ∙ sym (flat_map-append run_faults (input_runs inputs) (baseline_runs inputs))

  same_faults : faults_of plain ≡ faults_of inputs
  same_faults =
      ap₂ (λ sources runs. number_faults Log inputs.logs
      ++ (number_faults Baseline inputs.baselines ++ (sources ++ (file_faults (file_or_none inputs.suppressions inputs.today)
      ++ (faults_of_policy (policy_read (is_some inputs.diff) inputs.policy)
      ++ (faults_of_change (change_read inputs.checks inputs.diff) ++ runs))))))
      same_sources same_runs

  pub unread : IsSameMerge plain inputs
  unread = record { faults = same_faults; runs = same_written; unused = same_unused }
