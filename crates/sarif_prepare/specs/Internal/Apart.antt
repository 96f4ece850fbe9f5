-- The copies among the results of runs, and the runs without them.
use Rattle.std.specs.Prelude.{◌≡◌, ℕ, ◌+◌, Bool, true, false, List, [], ◌∷◌, ◌++◌, map, take, drop, Option, Some}
use Rattle.std.specs.List.{flat_map}
use Rattle.serde_json.specs.Data.{Data}
use Rattle.sarif_copies.specs.Copies.{copies_of, numbers_of}
use Rattle.sarif_entries.specs.File.{File}
use Rattle.sarif_log.specs.Internal.Texts.{own_count}
use Rattle.sarif_log.specs.LogBy.{listing_of}
use Rattle.sarif_model.specs.Run.{results_of}
use Rattle.sarif_once.specs.Once.{marked, without_copies}
use Rattle.sarif_prepare.specs.Internal.Baselines.{baseline_drafts}
use Rattle.sarif_prepare.specs.Internal.LeftParts.{left_count, present_counts}
use Rattle.sarif_prepare.specs.Internal.Limiting.{drafts_of, put_drafts, AreChanges}
use Rattle.sarif_prepare.specs.declared.limiting.ChangesOnce.{ChangesOnce}
use Rattle.sarif_prepare.specs.Once.{limited_once}
use Rattle.sarif_prepare.specs.declared.copies.BaselineCopies.{BaselineCopies}
use Rattle.sarif_prepare.specs.declared.copies.CurrentCopies.{CurrentCopies}
use Rattle.sarif_prepare.specs.declared.copies.SplitBaselines.{SplitBaselines}
use Rattle.sarif_prepare.specs.declared.copies.SplitLogs.{SplitLogs}
use Rattle.sarif_results.specs.Drafts.{applied_of, draft_by, drafts_by, members_in, unapplied}
use Rattle.sarif_results.specs.Internal.Judged.{placed_in, IsJudged}
use Rattle.sarif_results.specs.declared.draft.Draft.{Draft}
use Rattle.sarif_runs.specs.declared.item.Item.{Item}
use Rattle.sarif_runs.specs.declared.item.Item.TheVariants.{Sound, Bad, Skipped}
use Rattle.sarif_runs.specs.Judging.{records_of, run_values}
use Rattle.sarif_runs.specs.Placed.{Placed}
use Rattle.sarif_suppress.specs.Limited.{all_admitted}

-- how many results each run has, where it has an array of them
abbrev pub own_counts : List Placed → List (Option ℕ)
own_counts runs = map (λ p. own_count p.run) runs

-- the drafts of all results of logs, where each has the entries that admit its finding
abbrev pub current_drafts : File → List Placed → List Draft
current_drafts file runs =
    drafts_by (listing_of file) (applied_of file) (limited_once file (records_of runs))
    (flat_map results_of (run_values runs))

-- ---- the drafts of copies

-- the draft of a baseline result, if it is marked and has a record
abbrev pub copy_draft : Bool → Item → Data → List Draft
copy_draft false item d = []
copy_draft true (Sound r) d = draft_by (λ _ own. own) unapplied r (members_in d) ∷ []
copy_draft true (Bad fault) d = []
copy_draft true Skipped d = []

-- the drafts of the marked ones of these baseline results
abbrev pub copy_drafts : List Bool → List Item → List Data → List Draft
copy_drafts [] items ds = []
copy_drafts (mark ∷ marks) [] ds = []
copy_drafts (mark ∷ marks) (item ∷ items) [] = []
copy_drafts (mark ∷ marks) (item ∷ items) (d ∷ ds) =
    copy_draft mark item d ++ copy_drafts marks items ds

-- ---- what is needed of copies when the findings are matched

pub record AreCurrentCopies (file : File) (runs : List Placed) (copies : CurrentCopies)
    : Type 0 where
  pub marks : copies.marks.items ≡ copies_of (records_of runs)
  pub numbers : copies.numbers.items ≡ numbers_of (records_of runs)
  pub counts : copies.counts.items ≡ own_counts runs
  pub drafts : copies.drafts.items
      ≡ marked (copies_of (records_of runs)) (current_drafts file runs)

pub record AreBaselineCopies (runs : List Placed) (copies : BaselineCopies) : Type 0 where
  pub marks : copies.marks.items ≡ copies_of (records_of runs)
  pub numbers : copies.numbers.items ≡ numbers_of (records_of runs)
  pub counts : copies.counts.items ≡ present_counts runs
  pub drafts : copies.drafts.items
      ≡ marked (copies_of (records_of runs)) (baseline_drafts runs)

-- what changes for the findings of these runs of logs, and the drafts of their copies, where they are made again
pub record AreChangesOnce (file : File) (runs : List Placed) (changes : ChangesOnce) : Type 0 where
  pub findings : AreChanges file (records_of (without_copies runs))
      (all_admitted file (records_of (without_copies runs)))
      (flat_map results_of (run_values (without_copies runs))) changes.findings
  pub copies : put_drafts (marked (copies_of (records_of runs))
      (drafts_of file (records_of runs) (flat_map results_of (run_values runs)))) changes.copies.items
      ≡ marked (copies_of (records_of runs)) (current_drafts file runs)

-- these runs of logs without their copies, what changes for their results, and what is needed of the copies
pub record AreSplitLogs (file : File) (runs : List Placed) (split : SplitLogs) : Type 0 where
  pub changes : AreChanges file (records_of (without_copies runs))
      (all_admitted file (records_of (without_copies runs)))
      (flat_map results_of (run_values (without_copies runs))) split.changes
  pub judged : IsJudged file false split.rest
  pub rest : placed_in split.rest ≡ without_copies runs
  pub copies : AreCurrentCopies file runs split.copies

-- these runs of baselines without their copies, and what is needed of the copies
pub record AreSplitBaselines (file : File) (runs : List Placed) (split : SplitBaselines)
    : Type 0 where
  pub judged : IsJudged file true split.rest
  pub rest : placed_in split.rest ≡ without_copies runs
  pub copies : AreBaselineCopies runs split.copies

-- ---- unmatched results

-- how many results these runs have together
abbrev pub total : List ℕ → ℕ
total [] = 0
total (n ∷ counts) = n + total counts

-- for each run how many of its results aren't matched; the first list says how many each has
abbrev pub left_counts : List ℕ → List Bool → List (Option ℕ)
left_counts [] taken = []
left_counts (n ∷ counts) taken =
    Some (left_count (take n taken)) ∷ left_counts counts (drop n taken)
