use Rattle.std.proofs.Common.{map, sym, subst, ◌∙◌}
use Rattle.std.specs.List.{All}
use Rattle.sarif_runs.specs.Internal.Opened.{placed_of}
use Rattle.sarif_runs.specs.Internal.Spots.{IsSpotOf}
use Rattle.sarif_runs.proofs.SpotsWithin.{spots_within}
use Rattle.sarif_ratings_tests.proofs.rating.letters_of.Goals as goal

pub own_ratings-requires-clause-within : goal.own_ratings-requires-clause-within
own_ratings-requires-clause-within g c κs within =
    let runs = map placed_of c.args.runs.now in
    subst (All (IsSpotOf runs)) (sym (c.deref.ensures.value ∙ c.in_ok-spots.ensures)) (spots_within runs)
