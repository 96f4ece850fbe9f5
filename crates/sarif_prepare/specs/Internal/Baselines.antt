-- What is made from the runs of all baselines, before and after results are matched.
use Rattle.std.specs.Prelude.{◌≡◌, Bool, List, [], ◌∷◌, Some, map, length}
use Rattle.std.specs.List.{All, AllByRecursion, flat_map}
use Rattle.sarif_model.specs.declared.kinds.State.TheVariants.{Absent}
use Rattle.sarif_runs.specs.declared.item.Item.{Item}
use Rattle.sarif_runs.specs.declared.item.Item.TheVariants.{Sound, Bad, Skipped}
use Rattle.sarif_runs.specs.declared.spots.Spot.{Spot}
use Rattle.sarif_runs.specs.Judging.{records_of, run_values}
use Rattle.sarif_prepare.specs.Internal.Leftover.{found_at, not_taken}
use Rattle.sarif_runs.specs.Internal.Opened.{placed_of}
use Rattle.sarif_runs.specs.Placed.{Placed}
use Rattle.sarif_runs.specs.Internal.Spots.{IsSpotOf}
use Rattle.sarif_results.specs.declared.draft.Draft.{Draft}
use Rattle.sarif_log.specs.declared.merged_text.Side.{Side}
use Rattle.sarif_results.specs.Drafts.{drafts_by, unapplied}
use Rattle.sarif_log.specs.Internal.Texts.{present_results, IsWholeRun}
use Rattle.sarif_prepare.specs.Internal.LeftParts.{present_counts, AreLeftParts}
use Rattle.sarif_prepare.specs.declared.baselines.Baselines.{Baselines}
use Rattle.sarif_prepare.specs.Internal.Telling.{pair_at, present_in}

-- the places of those results that have a record
abbrev pub with_spot : Item → Spot → List Spot → List Spot
with_spot (Sound r) spot spots = spot ∷ spots
with_spot (Bad fault) spot spots = spots
with_spot Skipped spot spots = spots

abbrev pub spots_with_record : List Item → List Spot → List Spot
spots_with_record [] spots = []
spots_with_record (item ∷ items) [] = []
spots_with_record (item ∷ items) (spot ∷ spots) =
    with_spot item spot (spots_with_record items spots)

-- these runs of baselines, with a record and a place of each result that isn't absent already
pub record AreBaselines (runs : List Placed) (baselines : Baselines) : Type 0 where
  pub opened : map placed_of baselines.runs.items ≡ runs
  pub counts : baselines.counts.items ≡ present_counts runs
  pub records : baselines.records.items ≡ records_of runs
  pub spots : map (found_at runs) baselines.spots.items ≡ present_results (run_values runs)
  pub pairs : map (pair_at runs) baselines.spots.items ≡ flat_map present_in (run_values runs)
  pub within : All (IsSpotOf runs) baselines.spots.items
  pub count : length (records_of runs) ≡ length (present_results (run_values runs))

-- the drafts of all results that aren't absent already
abbrev pub baseline_drafts : List Placed → List Draft
baseline_drafts runs =
    drafts_by (λ _ own. own) unapplied (records_of runs) (present_results (run_values runs))

-- what is left of these runs of baselines
pub record IsLeft (runs : List Placed) (taken : List Bool) (side : Side) : Type 0 where
  pub parts : AreLeftParts side.runs.items taken (run_values runs)
  pub whole : AllByRecursion IsWholeRun side.runs.items
  pub drafts : side.drafts.items ≡ not_taken taken (baseline_drafts runs)
  pub states : side.states.items ≡ map (λ _. Some Absent) side.drafts.items
