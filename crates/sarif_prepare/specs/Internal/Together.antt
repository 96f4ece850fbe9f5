-- The runs of all logs and those of all baselines, with a record of each matched result.
use Rattle.std.specs.Prelude.{◌≡◌, ◌≤◌, List, Some, length, map}
use Rattle.std.specs.List.{AllByRecursion}
use Rattle.sarif_model.specs.declared.record.Record.{Record}
use Rattle.sarif_model.specs.Run.{results_total}
use Rattle.sarif_evidence.specs.declared.version.MatchingVersion.{MatchingVersion}
use Rattle.sarif_entries.specs.File.{File}
use Rattle.sarif_runs.specs.Judging.{records_of, run_values}
use Rattle.sarif_prepare.specs.Internal.Leftover.{not_taken}
use Rattle.sarif_runs.specs.Placed.{Placed}
use Rattle.sarif_results.specs.Drafts.{IsRun}
use Rattle.sarif_prepare.specs.declared.baselines.Baselines.{Baselines}
use Rattle.sarif_prepare.specs.declared.halves.Half.{Half}
use Rattle.sarif_prepare.specs.declared.pairing.Paired.{Paired}
use Rattle.sarif_prepare.specs.Internal.Baselines.{baseline_drafts, AreBaselines}
use Rattle.sarif_prepare.specs.Internal.Halves.{IsCurrent, IsFound}
use Rattle.sarif_prepare.specs.Internal.Limiting.{unadmitted}
use Rattle.sarif_log.specs.LogBy.{states_of, taken_of}
use Rattle.sarif_prepare.specs.Kept.{standings_of}
use Rattle.sarif_model.specs.Limits.{most_results, most_runs}

-- a record of each result of the logs, and of each that is there of the baselines; the first type says what is made of
-- the logs
pub record AreSides (IsHalf : Type 0) (current_runs baseline_runs : List Placed)
    (baselines : Baselines) : Type 0 where
  pub is_current : IsHalf
  pub are_baselines : AreBaselines baseline_runs baselines
  pub current_are_runs : AllByRecursion IsRun (run_values current_runs)
  pub baseline_are_runs : AllByRecursion IsRun (run_values baseline_runs)
  pub current_records : length (records_of current_runs) ≡ results_total (run_values current_runs)
  pub few_runs : length current_runs ≤ most_runs
  pub few_current : length (records_of current_runs) ≤ most_results
  pub few_baseline : length (records_of baseline_runs) ≤ most_results

-- both sides before they are matched
abbrev pub AreFound : File → List Placed → List Placed → Half → Baselines → Type 0
AreFound file current_runs baseline_runs current baselines =
    AreSides (IsFound file current_runs current) current_runs baseline_runs baselines

-- both sides once they are matched: the results of the logs have the entries that admit them
abbrev pub AreTogether : File → List Placed → List Placed → Half → Baselines → Type 0
AreTogether file current_runs baseline_runs current baselines =
    AreSides (IsCurrent file current_runs current) current_runs baseline_runs baselines

-- for results with these records, the state of each in a version, which baseline results are matched, and the drafts of
-- the others
pub record ArePaired (version : MatchingVersion) (rs : List Record) (baselines : Baselines)
    (paired : Paired) : Type 0 where
  pub states : paired.states.items ≡ map Some (states_of version rs baselines.records.items)
  pub standings : paired.standings.items ≡ standings_of version rs baselines.records.items
  pub taken : paired.taken.items ≡ taken_of version rs baselines.records.items
  pub left : (baseline_runs : List Placed) → AreBaselines baseline_runs baselines
      → paired.left.items ≡ not_taken paired.taken.items (baseline_drafts baseline_runs)

-- how the results of these runs of logs were matched, regardless of the entries that admit their results
abbrev pub IsPaired : MatchingVersion → Half → Baselines → Paired → Type 0
IsPaired version current baselines paired =
    ArePaired version (map unadmitted current.records.items) baselines paired
