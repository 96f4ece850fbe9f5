-- Runs with only some of their results.
use Rattle.std.specs.Prelude.{Bool, List, [], ◌∷◌, length, take, drop}
use Rattle.sarif_model.specs.Run.{results_of}
use Rattle.sarif_read.specs.Unmarked.{without_marked}
use Rattle.sarif_runs.specs.Placed.{Placed}

-- a run without its marked results
abbrev pub placed_without : List Bool → Placed → Placed
placed_without marks p =
    record {
      source = p.source;
      number = p.number;
      options = p.options;
      run = without_marked marks p.run;
    }

-- runs without their marked results; the marks are those of all results, in the order of runs and results
abbrev pub runs_without : List Bool → List Placed → List Placed
runs_without marks [] = []
runs_without marks (p ∷ ps) =
    let n = length (results_of p.run) in
    placed_without (take n marks) p ∷ runs_without (drop n marks) ps
