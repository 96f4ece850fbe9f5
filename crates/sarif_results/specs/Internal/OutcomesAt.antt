-- How the results of all runs are shared among workers: as spots in one list, a range of them for each shard.
use Rattle.std.specs.Prelude.{ℕ, List, map}
use Rattle.sarif_entries.specs.File.{File}
use Rattle.sarif_results.specs.declared.outcome.Outcome.{Outcome}
use Rattle.sarif_runs.specs.declared.spots.Spot.{Spot}
use Rattle.sarif_results.specs.Internal.Outcomes.{outcome_of}
use Rattle.sarif_runs.specs.Placed.{Placed}
use Rattle.sarif_runs.specs.Internal.Spots.{placed_at, shard_of}

-- the result at a place
abbrev pub outcome_at : File → List Placed → Spot → Outcome
outcome_at file runs spot = outcome_of file (placed_at runs spot.run) spot.seq

-- what is made of a shard
abbrev pub judged_shard : File → List Placed → ℕ → List Spot → ℕ → List Outcome
judged_shard file runs size spots k = map (outcome_at file runs) (shard_of size spots k)
