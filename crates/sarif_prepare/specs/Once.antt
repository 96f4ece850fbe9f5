-- The merged log whose copies aren't counted: findings alone are matched, and a copy has what its finding has.
use Rattle.std.specs.Prelude.{ℕ, Bool, false, List, [], ◌∷◌, ◌++◌, length, take, drop, Option, Some}
use Rattle.serde_json.specs.Data.{Data}
use Rattle.sarif_copies.specs.Copies.{copies_of, numbers_of, spread}
use Rattle.sarif_entries.specs.File.{File}
use Rattle.sarif_findings.specs.declared.reporting.Reporting.{Reporting}
use Rattle.sarif_log.specs.Copies.{if_any, places_from}
use Rattle.sarif_log.specs.Internal.Prepared.{IsPreparedAs}
use Rattle.sarif_log.specs.LogBy.{limited_records, listing_of, runs_by, runs_without_results, states_of, taken_of}
use Rattle.sarif_log.specs.MergedRuns.{absent_runs, merged_runs}
use Rattle.sarif_log.specs.declared.copies.CopyPlace.{CopyPlace}
use Rattle.sarif_log.specs.declared.prepared.Prepared.{Prepared}
use Rattle.sarif_evidence.specs.declared.version.MatchingVersion.{MatchingVersion}
use Rattle.sarif_model.specs.Run.{present, results_of}
use Rattle.sarif_model.specs.declared.kinds.State.{State}
use Rattle.sarif_model.specs.declared.kinds.State.TheVariants.{New}
use Rattle.sarif_model.specs.declared.record.Record.{Record}
use Rattle.sarif_once.specs.Once.{without_copies}
use Rattle.sarif_read.specs.Unmarked.{unmarked}
use Rattle.sarif_runs.specs.Judging.{records_of, run_values}
use Rattle.sarif_options.specs.declared.policy.Policy.{Policy}
use Rattle.sarif_policy.specs.declared.condition.GateCondition.{GateCondition}
use Rattle.sarif_prepare.specs.Ruled.{matched_in, ruled_by}
use Rattle.sarif_prepare.specs.Told.{told_in}
use Rattle.sarif_runs.specs.Placed.{Placed}
use Rattle.sarif_scope.specs.declared.gated.GatedChange.{GatedChange}
use Rattle.sarif_suppress.specs.Limited.{all_admitted, with_admitted}
use Rattle.sarif_suppress.specs.Suppressing.{unused_of}

-- ---- matching

-- the records of the findings
abbrev pub findings_only : List Record → List Record
findings_only rs = unmarked (copies_of rs) rs

-- the baseline state of each current result in a version: that of its finding
abbrev pub states_once : MatchingVersion → List Record → List Record → List State
states_once version cs bs =
    spread New (numbers_of cs) (states_of version (findings_only cs) (findings_only bs))

-- whether each baseline result is matched in a version: a copy is if its finding is
abbrev pub taken_once : MatchingVersion → List Record → List Record → List Bool
taken_once version cs bs =
    spread false (numbers_of bs) (taken_of version (findings_only cs) (findings_only bs))

-- ---- suppressing

-- the results, each with these numbers of entries
abbrev pub with_each : List Record → List (List ℕ) → List Record
with_each [] lists = []
with_each (r ∷ rs) [] = []
with_each (r ∷ rs) (numbers ∷ lists) = with_admitted r numbers ∷ with_each rs lists

-- for each result the numbers of the entries that admit its finding
abbrev pub admitted_once : File → List Record → List (List ℕ)
admitted_once file rs = spread [] (numbers_of rs) (all_admitted file (findings_only rs))

-- the results, each with the entries that admit its finding
abbrev pub limited_once : File → List Record → List Record
limited_once file rs = with_each rs (admitted_once file rs)

-- ---- what is written

-- the input runs, each result with its level, the state of its finding and its suppressions
abbrev pub current_once : MatchingVersion → File → List Placed → List Placed → List Data
current_once version file current baseline =
    merged_runs (listing_of file) (limited_once file (records_of current))
    (states_once version (records_of current) (records_of baseline)) (run_values current)

-- the baseline runs with a result that is unmatched or a copy of such a result, with exactly these results
abbrev pub leftover_once : MatchingVersion → List Placed → List Placed → List Data
leftover_once version current baseline =
    absent_runs (records_of baseline)
    (taken_once version (records_of current) (records_of baseline)) (run_values baseline)

abbrev pub runs_once : MatchingVersion → File → List Placed → List Placed → List Data
runs_once version file current baseline =
    current_once version file current baseline ++ leftover_once version current baseline

-- the runs of the merged log of the findings alone
abbrev pub runs_counted : MatchingVersion → File → List Placed → List Placed → List Data
runs_counted version file current baseline =
    runs_by version file (without_copies current) (without_copies baseline)

-- ---- where the copies are

-- the marks of the results of each run; they are those of all results, in the order of runs and results
abbrev pub marks_of_runs : List Bool → List Data → List (List Bool)
marks_of_runs marks [] = []
marks_of_runs marks (run ∷ runs) =
    let n = length (results_of run) in
    take n marks ∷ marks_of_runs (drop n marks) runs

-- the marks of the unmatched results of each run that has one; both lists are those of all results that aren't absent
-- already
abbrev pub marks_of_absent : List Bool → List Bool → List Data → List (List Bool)
marks_of_absent taken marks [] = []
marks_of_absent taken marks (run ∷ runs) =
    let n = length (present (results_of run)) in
    if_any (unmarked (take n taken) (take n marks))
    (marks_of_absent (drop n taken) (drop n marks) runs)

-- the places of the copies in the merged log
abbrev pub copies_written : MatchingVersion → List Placed → List Placed → List CopyPlace
copies_written version current baseline =
    let cs = records_of current in
    let bs = records_of baseline in
    places_from 0 (marks_of_runs (copies_of cs) (run_values current))
    ++ places_from (length current)
    (marks_of_absent (taken_once version cs bs) (copies_of bs) (run_values baseline))

-- ---- what is prepared

-- everything that is written for the merge of these input runs, these baseline runs and this suppression file, matched
-- by this version without their copies, and its findings; only findings are counted, reported, applied and checked by the
-- conditions of a policy
abbrev pub IsPreparedOnce : MatchingVersion → File → List Placed → List Placed → Option GatedChange
    → Policy → Option (List GateCondition) → Option Reporting → Prepared → Type 0
IsPreparedOnce version file current baseline change policy conditions asked prepared =
    IsPreparedAs (runs_once version file current baseline)
    (runs_counted version file current baseline)
    (Some (copies_written version current baseline)) change policy
    (ruled_by conditions version file change (without_copies current) (without_copies baseline))
    (runs_without_results (run_values current))
    (unused_of file (limited_records file (without_copies current)))
    (told_in conditions
    (matched_in version file change (without_copies current) (without_copies baseline)) asked
    (runs_counted version file current baseline)) prepared
