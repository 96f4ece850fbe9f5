-- For the contract of the writing of the log.
use Rattle.std.specs.Prelude.{◌≡◌, ◌≤◌, ◌+◌, Bool, List, ◌++◌, length, map, Option}
use Rattle.serde_json.specs.Data.{Data}
use Rattle.serde_json.specs.Written.{compact_text}
use Rattle.sarif_model.specs.declared.kinds.Level.{Level}
use Rattle.sarif_model.specs.declared.kinds.State.{State}
use Rattle.sarif_counts.specs.CountOf.{count_of}
use Rattle.sarif_counts.specs.Counts.{count_at, total_of}
use Rattle.sarif_counts.specs.declared.counts.Counts.{Counts}
use Rattle.sarif_results.specs.declared.draft.Draft.{Draft}
use Rattle.sarif_log.specs.declared.merged_text.Side.{Side}
use Rattle.sarif_log.specs.declared.prepared.CopyFlags.{CopyFlags}
use Rattle.sarif_log.specs.Internal.Copied.{baseline_marks, counted_if, current_marks}
use Rattle.sarif_log.specs.Internal.Texts.{tallied}
use Rattle.sarif_log.specs.Internal.Side.{texts_of_left, texts_of_runs}

-- the counts of these results that have a state
pub record AreCounted (drafts : List Draft) (states : List (Option State)) (counts : Counts)
    : Type 0 where
  pub each : (state : State) (level : Level) (suppressed : Bool)
      → count_at counts state level suppressed ≡ tallied drafts states state level suppressed
  pub few : total_of counts ≤ length drafts

-- the JSON of the runs of logs, and of the unmatched results of baselines, is that of these runs, and the counts without
-- the copies are those of the counted runs
pub record AreWrittenWith (copies : Option CopyFlags) (current baseline : Side)
    (runs counted : List Data) : Type 0 where
  pub texts : map compact_text runs ≡ texts_of_runs current ++ texts_of_left baseline
  pub counts : (state : State) (level : Level) (suppressed : Bool)
      → tallied current.drafts.items
      (counted_if (current_marks copies) current.states.items) state level suppressed
      + tallied baseline.drafts.items
      (counted_if (baseline_marks copies) baseline.states.items) state level suppressed
      ≡ count_of counted state level suppressed

-- the JSON and the counts of the runs of logs, and of the unmatched results of baselines, are those of these runs
pub record AreWritten (current baseline : Side) (runs : List Data) : Type 0 where
  pub texts : map compact_text runs ≡ texts_of_runs current ++ texts_of_left baseline
  pub counts : (state : State) (level : Level) (suppressed : Bool)
      → tallied current.drafts.items current.states.items state level suppressed
      + tallied baseline.drafts.items baseline.states.items state level suppressed
      ≡ count_of runs state level suppressed
