-- The merged log of inputs, and its text (SARIF 2.1.0, "sarifLog object").
use Rattle.std.specs.Prelude.{ℕ, List, [], Option, None, Result, Ok, Err, is_some}
use Rattle.serde_json.specs.Data.{Data}
use Rattle.serde_json.specs.Written.{compact_text}
use Rattle.sarif_model.specs.declared.record.Record.{Record}
use Rattle.sarif_entries.specs.File.{File}
use Rattle.sarif_suppress.specs.Suppressing.{unused_of}
use Rattle.sarif_entries.specs.declared.fault.FileFault.{FileFault}
use Rattle.sarif_options.specs.declared.policy.Policy.{Policy}
use Rattle.sarif_runs.specs.Judging.{records_of, run_values}
use Rattle.sarif_log.specs.LogBy.{current_runs, expired_of, limited_records, runs_by, runs_without_results}
use Rattle.sarif_log.specs.declared.copies.CopyPlace.{CopyPlace}
use Rattle.sarif_entries.specs.Given.{file_or_none}
use Rattle.sarif_conditions.specs.declared.facts.PolicyFacts.{PolicyFacts}
use Rattle.sarif_findings.specs.declared.finding.Finding.{Finding}
use Rattle.sarif_findings.specs.declared.reporting.Reporting.{Reporting}
use Rattle.sarif_inputs.specs.ChangeIn.{change_or_none, change_read}
use Rattle.sarif_inputs.specs.PolicyIn.{conditions_or_none, policy_read}
use Rattle.sarif_policy.specs.declared.condition.GateCondition.{GateCondition}
use Rattle.sarif_scope.specs.declared.gated.GatedChange.{GatedChange}
use Rattle.sarif_inputs.specs.Inputs.{Inputs, input_runs, baseline_runs}
use Rattle.sarif_prepare.specs.By.{copies_if, counted_if, inputs_if, logged_by, ruled_if, runs_counted_if, told_if, written_if}

abbrev pub file_in : Result File FileFault → File
file_in (Ok entries) = entries
file_in (Err fault) = record { entries = []; today = None }

-- the suppression file of the inputs
abbrev pub file_given : Inputs → File
file_given inputs = file_in (file_or_none inputs.suppressions inputs.today)

-- the change that the gate checks, if there is a diff
abbrev pub change_given : Inputs → Option GatedChange
change_given inputs = change_or_none (change_read inputs.checks inputs.diff)

-- the conditions of the policy, if there is one
abbrev pub conditions_given : Inputs → Option (List GateCondition)
conditions_given inputs =
    conditions_or_none (policy_read (is_some inputs.diff) inputs.policy)

-- what the conditions of the policy decide about the results that are counted, if there is a policy
unfoldable pub ruling_given : Inputs → Option PolicyFacts
ruling_given inputs =
    ruled_if (conditions_given inputs) inputs.checks (file_given inputs) (change_given inputs)
    (input_runs inputs) (baseline_runs inputs)

-- the findings of the results that are counted, if they are requested; with a policy those that its conditions report
unfoldable pub told_given : Inputs → Option Reporting → List Finding
told_given inputs asked =
    told_if (conditions_given inputs) inputs.checks (file_given inputs) (change_given inputs)
    asked (input_runs inputs) (baseline_runs inputs)

-- the records of all results of the logs
abbrev pub current_of : Inputs → List Record
current_of inputs = records_of (input_runs inputs)

-- the records of all results of the logs, each with the entries of the suppression file that admit it
abbrev pub limited_of : Inputs → List Record
limited_of inputs = limited_records (file_given inputs) (input_runs inputs)

-- the input runs as they are written if each result is counted: each result once, in order, with its level, its state
-- and its suppressions
abbrev pub written_inputs : Inputs → List Data
written_inputs inputs =
    current_runs inputs.checks.matching (file_given inputs)
    (input_runs inputs) (baseline_runs inputs)

-- the runs of the merged log, if each result is counted
abbrev pub runs_written : Inputs → List Data
runs_written inputs =
    runs_by inputs.checks.matching (file_given inputs) (input_runs inputs) (baseline_runs inputs)

abbrev pub without_of : Inputs → ℕ
without_of inputs = runs_without_results (run_values (input_runs inputs))

-- how many entries of the suppression file match no current result
abbrev pub unused_in : Inputs → ℕ
unused_in inputs = unused_of (file_given inputs) (limited_of inputs)

-- how many of these are expired
abbrev pub expired_in : Inputs → ℕ
expired_in inputs = expired_of (file_given inputs) (limited_of inputs)

-- ---- copies that aren't counted

-- the input runs as they are written, if copies may not be counted: a copy has the state of its finding
abbrev pub inputs_in_log : Inputs → List Data
inputs_in_log inputs =
    inputs_if inputs.checks.once inputs.checks.matching (file_given inputs)
    (input_runs inputs) (baseline_runs inputs)

-- the runs of the merged log, if copies may not be counted
abbrev pub runs_in_log : Inputs → List Data
runs_in_log inputs =
    written_if inputs.checks.once inputs.checks.matching (file_given inputs)
    (input_runs inputs) (baseline_runs inputs)

-- the runs of the merged log of the results that are counted
abbrev pub runs_counted : Inputs → List Data
runs_counted inputs =
    runs_counted_if inputs.checks.once inputs.checks.matching (file_given inputs)
    (input_runs inputs) (baseline_runs inputs)

-- the copies that the gate names
abbrev pub copies_in_log : Inputs → Option (List CopyPlace)
copies_in_log inputs =
    copies_if inputs.checks.once inputs.checks.matching (input_runs inputs) (baseline_runs inputs)

-- how many entries of the suppression file match no current result that is counted
abbrev pub unused_counted : Inputs → ℕ
unused_counted inputs =
    unused_of (file_given inputs)
    (limited_records (file_given inputs) (counted_if inputs.checks.once (input_runs inputs)))

-- ---- the log

abbrev pub merged_log : Inputs → Policy → Data
merged_log inputs policy =
    logged_by inputs.checks (file_given inputs) (input_runs inputs) (baseline_runs inputs)
    (change_given inputs) policy (conditions_given inputs)

-- the text that is written: compact, members in the byte order of their names, nothing after it
abbrev pub output_text : Inputs → Policy → List ℕ
output_text inputs policy = compact_text (merged_log inputs policy)
