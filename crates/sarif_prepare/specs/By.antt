-- What is written for a merge, whether its copies are counted or not.
use Rattle.std.specs.Prelude.{ℕ, Bool, true, false, List, ◌++◌, Option, Some, None}
use Rattle.serde_json.specs.Data.{Data}
use Rattle.sarif_entries.specs.File.{File}
use Rattle.sarif_findings.specs.declared.finding.Finding.{Finding}
use Rattle.sarif_findings.specs.declared.reporting.Reporting.{Reporting}
use Rattle.sarif_conditions.specs.declared.facts.PolicyFacts.{PolicyFacts}
use Rattle.sarif_log.specs.Copies.{naming}
use Rattle.sarif_log.specs.Internal.Prepared.{IsPreparedAs}
use Rattle.sarif_log.specs.Log.{log_with}
use Rattle.sarif_log.specs.Ruled.{gate_ruled}
use Rattle.sarif_log.specs.LogBy.{current_runs, leftover_runs, limited_records, runs_by, runs_without_results}
use Rattle.sarif_log.specs.declared.copies.CopyPlace.{CopyPlace}
use Rattle.sarif_log.specs.declared.prepared.Prepared.{Prepared}
use Rattle.sarif_evidence.specs.declared.version.MatchingVersion.{MatchingVersion}
use Rattle.sarif_once.specs.Once.{without_copies}
use Rattle.sarif_options.specs.declared.checks.Checks.{Checks}
use Rattle.sarif_options.specs.declared.policy.Policy.{Policy}
use Rattle.sarif_prepare.specs.Chosen.{chosen_merge}
use Rattle.sarif_choice.specs.declared.choice.Choosing.{Choosing}
use Rattle.sarif_policy.specs.declared.condition.GateCondition.{GateCondition}
use Rattle.sarif_prepare.specs.Once.{copies_written, current_once, leftover_once}
use Rattle.sarif_prepare.specs.Ruled.{matched_in, ruled_by}
use Rattle.sarif_prepare.specs.Told.{told_in}
use Rattle.sarif_runs.specs.Judging.{run_values}
use Rattle.sarif_runs.specs.Placed.{Placed}
use Rattle.sarif_scope.specs.declared.gated.GatedChange.{GatedChange}
use Rattle.sarif_suppress.specs.Suppressing.{unused_of}
use Rattle.sarif_upkeep.specs.Merge.{Merge}

-- the runs whose results are matched and counted: those without their copies, if each result counts only once
abbrev pub counted_if : Bool → List Placed → List Placed
counted_if true runs = without_copies runs
counted_if false runs = runs

-- the input runs as they are written
abbrev pub inputs_if : Bool → MatchingVersion → File → List Placed → List Placed → List Data
inputs_if true version file current baseline = current_once version file current baseline
inputs_if false version file current baseline = current_runs version file current baseline

-- the baseline runs as they are written
abbrev pub left_if : Bool → MatchingVersion → List Placed → List Placed → List Data
left_if true version current baseline = leftover_once version current baseline
left_if false version current baseline = leftover_runs version current baseline

-- the copies that the gate names
abbrev pub copies_if : Bool → MatchingVersion → List Placed → List Placed → Option (List CopyPlace)
copies_if true version current baseline = Some (copies_written version current baseline)
copies_if false version current baseline = None

-- the runs of the merged log
abbrev pub written_if : Bool → MatchingVersion → File → List Placed → List Placed → List Data
written_if once version file current baseline =
    inputs_if once version file current baseline ++ left_if once version current baseline

-- the runs of the merged log of the results that are counted
abbrev pub runs_counted_if : Bool → MatchingVersion → File → List Placed → List Placed → List Data
runs_counted_if once version file current baseline =
    runs_by version file (counted_if once current) (counted_if once baseline)

-- what these conditions decide about the results that are counted, if there are conditions
abbrev pub ruled_if : Option (List GateCondition) → Checks → File → Option GatedChange
    → List Placed → List Placed → Option PolicyFacts
ruled_if conditions checks file change current baseline =
    ruled_by conditions checks.matching file change
    (counted_if checks.once current) (counted_if checks.once baseline)

-- the findings of the results that are counted, with what these conditions decide, if there are conditions
abbrev pub told_if : Option (List GateCondition) → Checks → File → Option GatedChange
    → Option Reporting → List Placed → List Placed → List Finding
told_if conditions checks file change asked current baseline =
    told_in conditions (matched_in checks.matching file change
    (counted_if checks.once current) (counted_if checks.once baseline)) asked
    (runs_counted_if checks.once checks.matching file current baseline)

-- everything that is written for the merge of these input runs, these baseline runs and this suppression file, and its
-- findings, as these checks say how results are matched and counted
abbrev pub IsPreparedBy : Checks → File → List Placed → List Placed → Option GatedChange → Policy
    → Option (List GateCondition) → Option Reporting → Prepared → Type 0
IsPreparedBy checks file current baseline change policy conditions asked prepared =
    IsPreparedAs (written_if checks.once checks.matching file current baseline)
    (runs_counted_if checks.once checks.matching file current baseline)
    (copies_if checks.once checks.matching current baseline) change policy
    (ruled_if conditions checks file change current baseline)
    (runs_without_results (run_values current))
    (unused_of file (limited_records file (counted_if checks.once current)))
    (told_if conditions checks file change asked current baseline) prepared

-- the log of these input runs, baseline runs and suppression file, as these checks say how results are matched and counted
abbrev pub logged_by : Checks → File → List Placed → List Placed → Option GatedChange → Policy
    → Option (List GateCondition) → Data
logged_by checks file current baseline change policy conditions =
    log_with (naming (copies_if checks.once checks.matching current baseline)
    (gate_ruled (ruled_if conditions checks file change current baseline) change
    (runs_counted_if checks.once checks.matching file current baseline) policy
    (runs_without_results (run_values current))
    (unused_of file (limited_records file (counted_if checks.once current)))))
    (written_if checks.once checks.matching file current baseline)

-- the merge of the results that are counted, for later merges, with what these conditions decide, if there are some
abbrev pub merge_by : Option (List GateCondition) → Checks → File → Option (List ℕ)
    → Option GatedChange → Policy → Option Choosing → List Placed → List Placed → Merge
merge_by conditions checks file bytes change policy choice current baseline =
    chosen_merge conditions checks file bytes change policy choice
    (counted_if checks.once current) (counted_if checks.once baseline)
