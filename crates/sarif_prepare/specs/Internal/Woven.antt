-- Findings and copies in one list again, as they are written.
use Rattle.std.specs.Prelude.{◌≡◌, ◌≤◌, ◌+◌, ◌*◌, Bool, false, true, List, [], Some, map, length}
use Rattle.std.specs.List.{AllByRecursion, flat_map}
use Rattle.sarif_copies.specs.Copies.{copies_of, numbers_of, spread}
use Rattle.sarif_entries.specs.File.{File}
use Rattle.std.specs.declared.alloc.Global.{Global}
use Rattle.std.specs.declared.vec.Vec.{Vec}
use Rattle.sarif_log.specs.Internal.Side.{IsSide}
use Rattle.sarif_log.specs.Internal.Texts.{own_count, present_results, ArePartsOf, IsWholeRun}
use Rattle.sarif_log.specs.declared.merged_text.Side.{Side}
use Rattle.sarif_log.specs.declared.prepared.CopyFlags.{CopyFlags}
use Rattle.sarif_model.specs.Limits.{most_results, most_runs}
use Rattle.sarif_model.specs.Run.{results_of, results_total}
use Rattle.sarif_model.specs.declared.kinds.State.{State}
use Rattle.sarif_model.specs.declared.kinds.State.TheVariants.{New}
use Rattle.sarif_once.specs.Once.{without_copies}
use Rattle.sarif_prepare.specs.Internal.Apart.{current_drafts, AreBaselineCopies, AreCurrentCopies}
use Rattle.sarif_prepare.specs.Internal.Baselines.{IsLeft}
use Rattle.sarif_prepare.specs.Internal.Together.{AreFound}
use Rattle.sarif_prepare.specs.Internal.Limiting.{AreChanges}
use Rattle.sarif_suppress.specs.Limited.{all_admitted}
use Rattle.sarif_prepare.specs.declared.once.SplitSides.{SplitSides}
use Rattle.sarif_prepare.specs.declared.woven.CurrentWoven.{CurrentWoven}
use Rattle.sarif_prepare.specs.declared.woven.LeftWoven.{LeftWoven}
use Rattle.sarif_read.specs.Unmarked.{unmarked}
use Rattle.sarif_results.specs.Drafts.{IsRun}
use Rattle.sarif_runs.specs.Judging.{faults_of_runs, records_of, run_values, skips}
use Rattle.sarif_runs.specs.Placed.{Placed}

-- the runs of logs and of baselines, which have no error, copies among their results
pub record AreWhole (current_runs baseline_runs : List Placed) : Type 0 where
  pub current_are_runs : AllByRecursion IsRun (run_values current_runs)
  pub baseline_are_runs : AllByRecursion IsRun (run_values baseline_runs)
  pub current_records : length (records_of current_runs) ≡ results_total (run_values current_runs)
  pub baseline_records : length (records_of baseline_runs)
      ≡ length (present_results (run_values baseline_runs))
  pub current_faultless : faults_of_runs current_runs ≡ []
  pub baseline_faultless : faults_of_runs baseline_runs ≡ []
  pub current_sources : AllByRecursion (λ p. skips p.source ≡ false) current_runs
  pub baseline_sources : AllByRecursion (λ p. skips p.source ≡ true) baseline_runs
  pub few_runs : length current_runs ≤ most_runs
  pub few_current : length (records_of current_runs) ≤ most_results
  pub few_baseline : length (records_of baseline_runs) ≤ most_results

-- the two sides without their copies, and what is needed of the copies
pub record AreApart (file : File) (current_runs baseline_runs : List Placed) (split : SplitSides)
    : Type 0 where
  pub whole : AreWhole current_runs baseline_runs
  pub found : AreFound file (without_copies current_runs) (without_copies baseline_runs)
      split.current split.baselines
  pub changes : AreChanges file (records_of (without_copies current_runs))
      (all_admitted file (records_of (without_copies current_runs)))
      (flat_map results_of (run_values (without_copies current_runs))) split.changes
  pub current_copies : AreCurrentCopies file current_runs split.current_copies
  pub baseline_copies : AreBaselineCopies baseline_runs split.baseline_copies

-- all results of these runs of logs, where the findings have these states
pub record AreCurrentWoven (file : File) (found : List State) (runs : List Placed)
    (marks : List Bool) (side : Side) : Type 0 where
  pub parts : ArePartsOf own_count side.runs.items (run_values runs)
  pub whole : AllByRecursion IsWholeRun side.runs.items
  pub drafts : side.drafts.items ≡ current_drafts file runs
  pub states : side.states.items ≡ map Some (spread New (numbers_of (records_of runs)) found)
  pub copies : marks ≡ copies_of (records_of runs)

-- the unmatched results of these runs of baselines and their copies, where these findings are matched
pub record AreLeftWoven (taken : List Bool) (runs : List Placed) (marks : List Bool) (side : Side)
    : Type 0 where
  pub left : IsLeft runs (spread false (numbers_of (records_of runs)) taken) side
  pub copies : marks
      ≡ unmarked (spread false (numbers_of (records_of runs)) taken) (copies_of (records_of runs))

-- ---- both sides together

-- which results of logs and of baselines are copies
abbrev pub flags_of : Vec Bool Global → Vec Bool Global → CopyFlags
flags_of current baseline = record { current = current; baseline = baseline }

-- what is written of both sides has a draft, a state and a mark for each result, and not too many
pub record AreWoven (logs : CurrentWoven) (baselines : LeftWoven) : Type 0 where
  pub current_is : IsSide logs.side.side
  pub baseline_is : IsSide baselines.left.side
  pub few : length logs.side.side.drafts.items + length baselines.left.side.drafts.items
      ≤ 2 * most_results
  pub flags_of_current : length logs.copies.items ≡ length logs.side.side.drafts.items
  pub flags_of_baseline : length baselines.copies.items
      ≡ length baselines.left.side.drafts.items
