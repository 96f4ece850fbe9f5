-- The results of baselines that aren't already absent, each with its run.
use Rattle.std.specs.Prelude.{List, map}
use Rattle.std.specs.List.{flat_map}
use Rattle.serde_json.specs.Data.{Data}
use Rattle.sarif_model.specs.Run.{present, result_at, results_of}
use Rattle.sarif_runs.specs.Internal.Spots.{placed_at}
use Rattle.sarif_runs.specs.Judging.{run_values}
use Rattle.sarif_runs.specs.Placed.{Placed}
use Rattle.sarif_runs.specs.declared.spots.Spot.{Spot}

-- the result at a place, with its run
abbrev pub pair_at : List Placed → Spot → Data × Data
pair_at runs spot =
    ((placed_at runs spot.run).run, result_at (placed_at runs spot.run).run spot.seq)

-- the results of a run that aren't already absent
abbrev pub present_in : Data → List (Data × Data)
present_in run = map (λ result. (run, result)) (present (results_of run))

-- the results of these runs that aren't already absent
abbrev pub all_present : List Placed → List (Data × Data)
all_present runs = flat_map present_in (run_values runs)
