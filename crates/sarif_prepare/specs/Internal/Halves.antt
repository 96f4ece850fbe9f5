-- What is made from the runs of all logs before results are matched.
use Rattle.std.specs.Prelude.{◌≡◌, List, [], ◌∷◌, map, Option, Some, None}
use Rattle.std.specs.List.{flat_map}
use Rattle.sarif_model.specs.Run.{results_of}
use Rattle.sarif_entries.specs.File.{File}
use Rattle.sarif_results.specs.declared.outcome.Outcome.{Outcome}
use Rattle.sarif_runs.specs.Judging.{records_of, run_values}
use Rattle.sarif_runs.specs.Internal.Opened.{placed_of}
use Rattle.sarif_runs.specs.Placed.{Placed}
use Rattle.sarif_results.specs.declared.draft.Draft.{Draft}
use Rattle.sarif_results.specs.Drafts.{applied_of, drafts_by}
use Rattle.sarif_prepare.specs.declared.halves.Half.{Half}
use Rattle.sarif_log.specs.LogBy.{limited_records, listing_of}

-- the drafts among outcomes
abbrev pub with_draft : Option Draft → List Draft → List Draft
with_draft None drafts = drafts
with_draft (Some draft) drafts = draft ∷ drafts

abbrev pub drafts_in : List Outcome → List Draft
drafts_in [] = []
drafts_in (outcome ∷ outcomes) = with_draft outcome.draft (drafts_in outcomes)

-- the runs of logs, as they were judged
pub record IsFound (file : File) (runs : List Placed) (half : Half) : Type 0 where
  pub opened : map placed_of half.runs.items ≡ runs
  pub records : half.records.items ≡ records_of runs
  pub drafts : half.drafts.items
      ≡ drafts_by (listing_of file) (applied_of file) (records_of runs)
      (flat_map results_of (run_values runs))

-- the runs of logs, where each result has the entries that admit it
pub record IsCurrent (file : File) (runs : List Placed) (half : Half) : Type 0 where
  pub opened : map placed_of half.runs.items ≡ runs
  pub records : half.records.items ≡ limited_records file runs
  pub drafts : half.drafts.items
      ≡ drafts_by (listing_of file) (applied_of file) (limited_records file runs)
      (flat_map results_of (run_values runs))
