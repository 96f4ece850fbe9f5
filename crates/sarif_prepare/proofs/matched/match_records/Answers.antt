use Rattle.std.proofs.Common.{Some, map, ap, ◌∙◌}
use Rattle.sarif_match.specs.Partners.{partners_in}
use Rattle.sarif_prepare.specs.Kept.{standings_from}
use Rattle.sarif_prepare.proofs.StandingsMore.{states_there}
use Rattle.sarif_prepare.proofs.matched.match_records.Goals as goal

pub returns-clause-states : goal.returns-clause-states
returns-clause-states g c =
    let cs = c.args.current.now in
    let bs = c.args.baseline.now in
    let v = c.args.options.now.checks.matching in
    c.in_ok-states.ensures
    ∙ ap (map (λ standing. Some standing.state)) (c.deref.ensures.value ∙ c.in_ok-standings.ensures
    ∙ ap (λ ps. standings_from v bs ps 0 cs) c.in_ok-matching.ensures)
    ∙ states_there v bs (partners_in v cs bs) 0 cs
