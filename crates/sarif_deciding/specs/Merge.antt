-- The matched results of a merge, as the definitions see them.
use Rattle.std.specs.Prelude.{◌≡◌, ◌≤◌, List, Option, Some, None, length, map, option_map}
use Rattle.std.specs.List.{All}
use Rattle.sarif_model.specs.Limits.{most_results, most_runs}
use Rattle.sarif_model.specs.declared.kinds.State.{State}
use Rattle.sarif_model.specs.declared.kinds.State.TheVariants.{New}
use Rattle.sarif_read.specs.Unmarked.{unmarked}
use Rattle.sarif_runs.specs.Internal.Opened.{placed_of}
use Rattle.sarif_runs.specs.Internal.Spots.{spots_from, IsSpotOf}
use Rattle.sarif_runs.specs.Placed.{Placed}
use Rattle.sarif_deciding.specs.Matched.{Matched}
use Rattle.sarif_deciding.specs.Present.{all_present, pair_at}
use Rattle.sarif_deciding.specs.declared.merge.CurrentResults.{CurrentResults}
use Rattle.sarif_deciding.specs.declared.merge.LeftResults.{LeftResults}
use Rattle.sarif_deciding.specs.declared.merge.MatchedMerge.{MatchedMerge}

-- the input runs, and those of baselines
abbrev pub runs_in : CurrentResults → List Placed
runs_in current = map placed_of current.runs.now

abbrev pub runs_before : LeftResults → List Placed
runs_before before = map placed_of before.runs.now

-- the state of a current result; it always has one
abbrev pub state_in : Option State → State
state_in None = New
state_in (Some state) = state

abbrev pub matched_of : MatchedMerge → Matched
matched_of merge = record {
  file = merge.file.now;
  change = option_map (λ change. change.now) merge.change;
  runs = runs_in merge.current;
  records = merge.current.records.now;
  states = map state_in merge.current.states.now;
  drafts = merge.current.drafts.now;
  before = runs_before merge.before;
  known = merge.before.records.now;
  taken = merge.before.taken.now;
  left = merge.before.left.now;
}

-- each result of these runs has a draft, a record and a state; there are not too many
pub record AreCurrent (current : CurrentResults) : Type 0 where
  pub few_runs : length (runs_in current) ≤ most_runs
  pub few : length current.drafts.now ≤ most_results
  pub drafts : length current.drafts.now ≡ length (spots_from 0 (runs_in current))
  pub records : length current.records.now ≡ length current.drafts.now
  pub states : length current.states.now ≡ length current.drafts.now

-- the places are those of the results of these runs that aren't already absent; each of them has a record, and each
-- that isn't the match of a current result a draft; there are not too many
pub record AreLeft (before : LeftResults) : Type 0 where
  pub within : All (IsSpotOf (runs_before before)) before.spots.now
  pub pairs : map (pair_at (runs_before before)) before.spots.now ≡ all_present (runs_before before)
  pub records : length before.records.now ≡ length before.spots.now
  pub taken : length before.taken.now ≡ length before.records.now
  pub left : length before.left.now ≡ length (unmarked before.taken.now before.spots.now)
  pub few : length before.left.now ≤ most_results
