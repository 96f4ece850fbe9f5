use Rattle.std.proofs.Common.{rules, ◌≡◌, ◌∙◌, map, true, sym, ap, subst}
use Rattle.std.specs.List.{All}
use Rattle.sarif_ratings.specs.Ratings.{rating_at}
use Rattle.sarif_runs.specs.Internal.Opened.{placed_of}
use Rattle.sarif_runs.specs.Internal.Spots.{IsSpotOf}
use Rattle.sarif_deciding.specs.Asked.{rates}
use Rattle.sarif_deciding.proofs.Unmarked.{if_asked, left_rated, unmarked_within}
use Rattle.sarif_deciding.proofs.absent.rate_absent.Goals as goal

pub rate-requires-clause-within : goal.rate-requires-clause-within
rate-requires-clause-within g c κs within =
    let before = c.args.merge.now.before in
    let runs = map placed_of before.runs.now in
    subst (All (IsSpotOf runs)) (sym c.in_ok-spots.ensures) (unmarked_within (IsSpotOf runs) before.taken.now before.spots.now c.requires.left.within)

pub returns-in_ok-ratings : goal.returns-in_ok-ratings
returns-in_ok-ratings g c =
    let before = c.args.merge.now.before in
    let runs = map placed_of before.runs.now in
    let asked : rates c.args.conditions.now ≡ true = search rules in
    c.in_ok-ratings.ensures before.left.now
    ∙ ap (map (rating_at runs)) c.in_ok-spots.ensures
    ∙ left_rated runs before.taken.now before.spots.now c.requires.left.pairs
    ∙ if_asked (rates c.args.conditions.now) _ _ asked
