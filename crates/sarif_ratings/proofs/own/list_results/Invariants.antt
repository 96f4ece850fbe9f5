use Rattle.std.proofs.Common.{◌≡◌, ◌++◌, map, drop}
use Rattle.sarif_runs.specs.Internal.Opened.{placed_of}
use Rattle.sarif_ratings.specs.Internal.Listed.{own_of}
use Rattle.sarif_ratings.specs.Ratings.{own_rating_at}
use Rattle.sarif_ratings.proofs.own.list_results.Given as goal

abbrev pub invariant-loop-spot : goal.invariant-loop-spot
invariant-loop-spot l =
    map own_of l.list.items ++ map (own_rating_at (map placed_of l.runs)) (drop l.spot-index l.spots)
    ≡ map (own_rating_at (map placed_of l.runs)) l.spots
