-- Judged runs without some of their results.
use Rattle.std.specs.Prelude.{◌≡◌, Bool, List}
use Rattle.sarif_copies.specs.Copies.{copies_of, numbers_of}
use Rattle.sarif_entries.specs.File.{File}
use Rattle.sarif_results.specs.Internal.Judged.{placed_in, IsJudged}
use Rattle.sarif_results.specs.Internal.Outcomes.{all_outcomes}
use Rattle.sarif_runs.specs.Judging.{records_of}
use Rattle.sarif_runs.specs.Placed.{Placed}
use Rattle.sarif_runs.specs.Unmarked.{runs_without}
use Rattle.sarif_once.specs.Once.{copy_marks, marked}
use Rattle.sarif_once.specs.declared.marking.CopyMarks.{CopyMarks}
use Rattle.sarif_once.specs.declared.parting.Parted.{Parted}

-- which results of these runs are copies, and where the findings are
pub record AreCopyMarks (runs : List Placed) (found : CopyMarks) : Type 0 where
  pub marks : found.marks.items ≡ copy_marks runs
  pub copies : found.apart.copies.items ≡ copies_of (records_of runs)
  pub numbers : found.apart.numbers.items ≡ numbers_of (records_of runs)

-- these runs of logs (false) or of baselines (true) without their marked results, and the outcomes of these
pub record IsParted (file : File) (baseline : Bool) (marks : List Bool) (runs : List Placed)
    (parted : Parted) : Type 0 where
  pub judged : IsJudged file baseline parted.rest
  pub without : placed_in parted.rest ≡ runs_without marks runs
  pub marked : parted.marked.items ≡ marked marks (all_outcomes file runs)
