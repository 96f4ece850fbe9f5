-- What the steps of a merge make, and how each of them may reject it. Only a step's own proof opens what it makes.
use Rattle.std.specs.Prelude.{◌≡◌, ◌≤◌, ◌++◌, List, [], Option, Result, Ok, false, true, is_some, length, map}
use Rattle.json.specs.Token.{Token}
use Rattle.json_parts.specs.declared.indexing.IndexFault.{IndexFault}
use Rattle.sarif_model.specs.Limits.{most_results, most_runs}
use Rattle.sarif_model.specs.MergeFault.{exit_status}
use Rattle.sarif_model.specs.Run.{results_total}
use Rattle.sarif_model.specs.declared.merge_fault.MergeFault.{MergeFault}
use Rattle.sarif_model.specs.declared.merge_fault.Source.TheVariants.{Log, Baseline}
use Rattle.sarif_options.specs.declared.policy.Policy.{Policy}
use Rattle.sarif_options.specs.declared.checks.Checks.{Checks}
use Rattle.sarif_entries.specs.File.{File}
use Rattle.sarif_runs.specs.Judging.{faults_of_runs, run_values}
use Rattle.sarif_runs.specs.Internal.Opened.{placed_of}
use Rattle.sarif_runs.specs.Placed.{Placed}
use Rattle.sarif_runs.specs.declared.opened.OpenedRun.{OpenedRun}
use Rattle.sarif_diff.specs.declared.fault.DiffFault.{DiffFault}
use Rattle.sarif_inputs.specs.ChangeIn.{change_or_none, change_read, faults_of_change}
use Rattle.sarif_inputs.specs.Faults.{faults_of, file_faults}
use Rattle.sarif_inputs.specs.PolicyIn.{conditions_or_none, faults_of_policy, policy_read}
use Rattle.sarif_policy.specs.declared.condition.GateCondition.{GateCondition}
use Rattle.sarif_policy.specs.declared.fault.PolicyFault.{PolicyFault}
use Rattle.sarif_scope.specs.declared.gated.GatedChange.{GatedChange}
use Rattle.sarif_entries.specs.Given.{file_or_none}
use Rattle.sarif_inputs.specs.Internal.Indexes.{AreIndexesOf}
use Rattle.sarif_inputs.specs.Inputs.{Inputs, all_runs, baseline_runs, input_runs, numbered, placed}
use Rattle.sarif_results.specs.Internal.Judged.{IsJudged, placed_in}
use Rattle.sarif_results.specs.declared.judged.Judged.{Judged}
use Rattle.sarif_prepare.specs.Asked.{choice_in, reporting_in, upkeep_in}
use Rattle.sarif_log.specs.declared.merged.Merged.{Merged}
use Rattle.sarif_log.specs.declared.prepared.Prepared.{Prepared}
use Rattle.sarif_merge.specs.Given.{inputs_of}
use Rattle.sarif_merge.specs.Life.{IsLifeOf, IsRefusal}
use Rattle.sarif_merge.specs.Merged.{IsMerged}
use Rattle.sarif_merge.specs.MergedLog.{file_given}
use Rattle.sarif_merge.specs.Internal.Prepared.{IsPreparedFor}
use Rattle.sarif_merge.specs.declared.steps.Merging.{Merging}

-- its inputs
abbrev pub inputs_in : Merging → Inputs
inputs_in m = inputs_of m.sources.now m.asked.now.options.now

-- the policy of its gate
abbrev pub policy_in : Merging → Policy
policy_in m = m.asked.now.options.now.policy

-- why it is rejected: for a reason of the merge, and neither a read nor a write failed
unfoldable pub IsRejection : Merging → MergeFault → Type 0
IsRejection m fault =
    IsRefusal (inputs_in m) (policy_in m) (choice_in m.asked.now) (upkeep_in m.asked.now) fault
    × (exit_status fault.cause ≡ 2)

-- what it requires of runs, and how its results are matched and counted
abbrev pub checks_in : Merging → Checks
checks_in m = m.asked.now.options.now.checks

-- the indexes of its sources, those of the logs first
unfoldable pub AreIndexesIn : Merging → List (Result (List Token) IndexFault) → Type 0
AreIndexesIn m indexes =
    AreIndexesOf (inputs_in m).logs (inputs_in m).baselines indexes
    (length m.sources.now.logs.items)

-- the change of its diff, or the first error in it, if there is a diff
abbrev pub change_read_in : Merging → Option (Result GatedChange DiffFault)
change_read_in m = change_read (inputs_in m).checks (inputs_in m).diff

-- the conditions of its policy, or the first error in it, if there is a policy
abbrev pub policy_read_in : Merging → Option (Result (List GateCondition) PolicyFault)
policy_read_in m = policy_read (is_some (inputs_in m).diff) (inputs_in m).policy

-- its sources were read: any error is one of the suppression file, of the policy, of the diff or of the runs
unfoldable pub IsRead : Merging → Type 0
IsRead m = faults_of (inputs_in m)
    ≡ file_faults (file_or_none (inputs_in m).suppressions (inputs_in m).today)
    ++ (faults_of_policy (policy_read_in m)
    ++ (faults_of_change (change_read_in m) ++ faults_of_runs (all_runs (inputs_in m))))

-- these runs, opened
pub record AreOpened (wanted : List Placed) (runs : List OpenedRun) : Type 0 where
  pub are : map placed_of runs ≡ wanted
  pub few : length runs ≤ most_runs
  pub few_results : results_total (run_values (map placed_of runs)) ≤ most_results

-- the runs of its logs, without what only entries of the suppression file compare
unfoldable pub AreLogsOpened : Merging → List OpenedRun → Type 0
AreLogsOpened m runs =
    AreOpened (placed (numbered (checks_in m) Log 0 (inputs_in m).logs)) runs

-- the runs of its baselines, without what only entries of the suppression file compare
unfoldable pub AreBaselinesOpened : Merging → List OpenedRun → Type 0
AreBaselinesOpened m runs =
    AreOpened (placed (numbered (checks_in m) Baseline 0 (inputs_in m).baselines)) runs

-- the runs of its logs
unfoldable pub AreLogsReady : Merging → List OpenedRun → Type 0
AreLogsReady m runs = AreOpened (input_runs (inputs_in m)) runs

-- the runs of its baselines
unfoldable pub AreBaselinesReady : Merging → List OpenedRun → Type 0
AreBaselinesReady m runs = AreOpened (baseline_runs (inputs_in m)) runs

-- its suppression file: any error is one of the policy, of the diff or of the runs
unfoldable pub IsFileIn : Merging → File → Type 0
IsFileIn m file = (file_or_none (inputs_in m).suppressions (inputs_in m).today ≡ Ok file)
    × (faults_of (inputs_in m) ≡ faults_of_policy (policy_read_in m)
    ++ (faults_of_change (change_read_in m) ++ faults_of_runs (all_runs (inputs_in m))))

-- the conditions of its policy: any error is one of the diff or of the runs
unfoldable pub IsPolicyIn : Merging → Option (List GateCondition) → Type 0
IsPolicyIn m conditions = (conditions_or_none (policy_read_in m) ≡ conditions)
    × (faults_of (inputs_in m)
    ≡ faults_of_change (change_read_in m) ++ faults_of_runs (all_runs (inputs_in m)))

-- its change: any error is one of the runs
unfoldable pub IsChangeIn : Merging → Option GatedChange → Type 0
IsChangeIn m change = (change_or_none (change_read_in m) ≡ change)
    × (faults_of (inputs_in m) ≡ faults_of_runs (all_runs (inputs_in m)))

-- the runs of its logs have no error
unfoldable pub AreLogsSound : Merging → Type 0
AreLogsSound m = faults_of_runs (input_runs (inputs_in m)) ≡ []

-- the results of its logs, judged
unfoldable pub AreLogsJudged : Merging → Judged → Type 0
AreLogsJudged m judged =
    (placed_in judged ≡ input_runs (inputs_in m)) × IsJudged (file_given (inputs_in m)) false judged

-- the results of its baselines, judged
unfoldable pub AreBaselinesJudged : Merging → Judged → Type 0
AreBaselinesJudged m judged =
    (placed_in judged ≡ baseline_runs (inputs_in m))
    × IsJudged (file_given (inputs_in m)) true judged

-- everything that is written for it
unfoldable pub IsReady : Merging → Prepared → Type 0
IsReady m prepared =
    IsPreparedFor (inputs_in m) (policy_in m) (reporting_in m.asked.now) (choice_in m.asked.now)
    (upkeep_in m.asked.now) prepared

-- its merged log, and what is for later merges
unfoldable pub IsMergeOf : Merging → Merged → Type 0
IsMergeOf m merged =
    IsMerged (inputs_in m) (policy_in m) (reporting_in m.asked.now) merged
    × IsLifeOf (inputs_in m) (policy_in m) (choice_in m.asked.now) (upkeep_in m.asked.now)
    merged.life
