-- How the results of all runs are shared among workers: as spots in one list, a range of them for each shard.
use Rattle.std.specs.Prelude.{ℕ, false, ◌+◌, ◌*◌, ◌<◌, List, [], ◌∷◌, ◌++◌, map, take, drop, length, slice_index_or}
use Rattle.std.specs.List.{range_with_len}
use Rattle.serde_json.specs.Data.{null}
use Rattle.sarif_model.specs.Run.{results_of}
use Rattle.sarif_model.specs.declared.merge_fault.Source.TheVariants.{Output}
use Rattle.sarif_runs.specs.declared.spots.Spot.{Spot}
use Rattle.sarif_runs.specs.Placed.{Placed}

-- the run that is returned past the end of a list of runs
abbrev pub no_run : Placed
no_run =
    record {
      source = Output;
      number = 0;
      options = record {
        must_succeed = false;
        records = record { regions = false; ignored = [] };
      };
      run = null;
    }

abbrev pub placed_at : List Placed → ℕ → Placed
placed_at runs k = slice_index_or runs k no_run

-- the places of the results of one run
abbrev pub spots_in : ℕ → ℕ → List Spot
spots_in run count = map (λ seq. record { run = run; seq = seq }) (range_with_len 0 count)

-- the places of the results of runs; the first run has number n
abbrev pub spots_from : ℕ → List Placed → List Spot
spots_from n [] = []
spots_from n (p ∷ runs) = spots_in n (length (results_of p.run)) ++ spots_from (n + 1) runs

-- a place is that of a result
abbrev pub IsSpotOf : List Placed → Spot → Type 0
IsSpotOf runs spot =
    (spot.run < length runs) × (spot.seq < length (results_of (placed_at runs spot.run).run))

-- the spots of shard k, if each shard has that many
abbrev pub shard_of : ℕ → List Spot → ℕ → List Spot
shard_of size spots k = take size (drop (k * size) spots)
