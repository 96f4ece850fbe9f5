-- What the next merge has if the known log leaves no current result out.
use Rattle.std.specs.Prelude.{◌≡◌, ℕ, false, bytes_eq, List, [], ◌∷◌, filter, flat_map, length, map, Option, Some, Ok}
use Rattle.std.specs.List.{AllZip}
use Rattle.serde_json.specs.Data.{Data}
use Rattle.sarif_model.specs.declared.kinds.State.TheVariants.{Absent, Unchanged}
use Rattle.sarif_model.specs.declared.record.Record.{Record}
use Rattle.sarif_model.specs.Run.{results_of}
use Rattle.sarif_options.specs.declared.policy.Policy.{Policy}
use Rattle.sarif_counts.specs.declared.gate_verdict.Verdict.TheVariants.{Pass}
use Rattle.sarif_options.specs.declared.upkeep.Knowing.{Knowing}
use Rattle.sarif_scope.specs.Counted.{verdict_by}
use Rattle.sarif_scope.specs.declared.gated.GatedChange.{GatedChange}
use Rattle.sarif_findings.specs.Reported.{state_in}
use Rattle.sarif_runs.specs.Record.{record_of}
use Rattle.sarif_known.specs.Chosen.{known_as, knows_regions}
use Rattle.sarif_known.specs.KnownResult.{known_result}
use Rattle.sarif_known.specs.Selected.{unmatched_of}
use Rattle.sarif_inputs.specs.Faults.{faults_of}
use Rattle.sarif_inputs.specs.Inputs.{Inputs, reading_checks, record_options}
use Rattle.sarif_log.specs.LogBy.{taken_of}
use Rattle.sarif_log.specs.MergedRuns.{written}
use Rattle.sarif_merge.specs.Life.{merge_in}
use Rattle.sarif_merge.specs.MergedLog.{current_of, runs_written}
use Rattle.sarif_merge.specs.OwnResult.{IsResult, baseline_of, number_among_all, partner_at, run_at}
use Rattle.sarif_upkeep.specs.Known.{known_before, remembered}
use Rattle.sarif_laws.specs.NextMerge.{absent_written, merged_result}

-- an accepted merge of the same logs with this log as the only baseline, which matches and ignores the same; its
-- suppression file, its date and what it requires of runs may be others
pub record IsNextWith (inputs : Inputs) (known : List ℕ) (later : Inputs) : Type 0 where
  pub logs : later.logs ≡ inputs.logs
  pub baseline : later.baselines ≡ known ∷ []
  pub matching : later.checks.matching ≡ inputs.checks.matching
  pub once : later.checks.once ≡ inputs.checks.once
  pub ignored : later.checks.ignored ≡ inputs.checks.ignored
  pub faultless : faults_of later ≡ []

-- the text of the known log of these inputs
abbrev pub text_known : Inputs → Policy → Knowing → List ℕ
text_known inputs policy knowing = (remembered (merge_in inputs policy) knowing).text

-- a record as it becomes known in the merge of these inputs: with its region and its snippet if matching reads them or
-- copies aren't counted, otherwise without
abbrev pub as_known : Inputs → Record → Record
as_known inputs = known_as (knows_regions inputs.checks.matching inputs.checks.once)

-- the results of the baselines that stay known, as they become known
abbrev pub results_kept : Inputs → Policy → List Record
results_kept inputs policy =
    map (as_known inputs) (flat_map (λ run. run.records) (known_before (merge_in inputs policy)))

-- the results of the baselines that no current result matches
abbrev pub results_unmatched : Inputs → List Record
results_unmatched inputs =
    unmatched_of (baseline_of inputs)
    (taken_of inputs.checks.matching (current_of inputs) (baseline_of inputs))

-- the results of a tool, in order
abbrev pub of_tool : List ℕ → List Record → List Record
of_tool tool rs = filter (λ r. bytes_eq r.tool tool) rs

-- a result of the known log that was written from this record, as it is written if it is absent
abbrev pub IsAbsentOf : Record → Data → Type 0
IsAbsentOf r d =
    (artifact : Option ℕ) × (d ≡ written (λ _ own. own) r Absent (known_result r artifact))

-- nothing is new in this merge, and these are the results of its baseline that aren't current
pub record HasNothingNew (kept : List Record) (inputs : Inputs) : Type 0 where
  -- the match of each current result has the same record, as it becomes known, and so each is unchanged
  pub matched : (k seq : ℕ) (r : Record) → IsResult inputs k seq
      → record_of (record_options (reading_checks inputs)) (run_at inputs k) seq ≡ Ok r
      → partner_at inputs (number_among_all inputs k seq) ≡ Some (as_known inputs r)
  pub unchanged : (k seq : ℕ) → IsResult inputs k seq
      → state_in (merged_result inputs k seq) ≡ Some Unchanged
  -- exactly the others are absent, of each tool in their order
  pub others : (tool : List ℕ)
      → of_tool tool (results_unmatched inputs) ≡ of_tool tool kept
  pub absent : AllZip IsAbsentOf (results_unmatched inputs)
      (flat_map results_of (absent_written inputs))
  pub count : length (flat_map results_of (absent_written inputs)) ≡ length kept
  -- so the gate passes if it counts neither unchanged nor absent results, with each change and without one
  pub verdict : (change : Option GatedChange) (policy : Policy)
      → policy.states.unchanged ≡ false → policy.states.absent ≡ false
      → verdict_by change policy (runs_written inputs) ≡ Pass
