use Rattle.std.proofs.Common.{◌≡◌, subst}
use Rattle.sarif_prepare.specs.Kept.{standings_from}
use Rattle.sarif_prepare.proofs.StandingsMore.{all_standing}
use Rattle.sarif_prepare.proofs.matched.list_standings.Goals as goal

pub returns : goal.returns
returns g c =
    let v = c.args.matches.version in
    let bs = c.args.matches.baseline.now in
    let ms = c.args.matches.matching.now in
    all_standing _ _ v bs ms (λ start part made given. subst (λ cs. made.items ≡ standings_from v bs ms start cs) given.shows given.call)
    c.args.current.now c.in_ok-lists.lists.items c.in_ok-standings.standings.items c.in_ok-lists.ensures c.in_ok-standings.ensures
