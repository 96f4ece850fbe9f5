use Rattle.std.proofs.Common.{map, sym, subst}
use Rattle.std.specs.List.{All}
use Rattle.sarif_runs.proofs.SpotsWithin.{spots_within}
use Rattle.sarif_runs.specs.Internal.Opened.{placed_of}
use Rattle.sarif_runs.specs.Internal.Spots.{IsSpotOf}
use Rattle.sarif_deciding.proofs.current.rate_current.Goals as goal

pub rate-requires-clause-within : goal.rate-requires-clause-within
rate-requires-clause-within g c κs within =
    let runs = map placed_of c.args.merge.now.current.runs.now in
    subst (All (IsSpotOf runs)) (sym c.in_ok-spots.ensures) (spots_within runs)
