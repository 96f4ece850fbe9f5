use Rattle.std.proofs.Common.{ap, arith, subst, sym}
use Rattle.std.proofs.lemmas.List.{length-map}
use Rattle.sarif_model.specs.Internal.References.{IsRuleReference}
use Rattle.sarif_model.specs.Run.{result_at}
use Rattle.sarif_runs.specs.Internal.Opened.{placed_of}
use Rattle.sarif_runs.specs.declared.opened.OpenedRun.{OpenedRun}
use Rattle.sarif_runs.specs.declared.spots.Spot.{Spot}
use Rattle.sarif_deciding.proofs.RatedHere.{as_many, rated_here}
use Rattle.sarif_deciding.proofs.rated.rated_at.Goals as goal

pub index-run-requires : goal.index-run-requires
index-run-requires c =
    let rated = c.args.rated.now in
    let spot = c.index-spot.result.now in
    let within = (rated.within c.args.number spot c.requires).0 in
    let same = ap (λ (s : Spot). s.run) c.index-spot.ensures in
    let placed = length-map rated.opened.now placed_of in
    let many = as_many rated.opened.now rated.runs.items rated.runs_are in
    let kept = rated.runs.ok.0 in
    omega (arith, within, same, placed, many, kept)

pub returns : goal.returns
returns c =
    let rated = c.args.rated.now in
    let spot = c.index-spot.result.now in
    let within = (rated.within c.args.number spot c.requires).0 in
    let same = ap (λ (s : Spot). s.run) c.index-spot.ensures in
    let placed = length-map rated.opened.now placed_of in
    rated_here rated.opened.now rated.runs.items rated.spots.items rated.own.items rated.own_are rated.runs_are
    c.args.number spot c.index-rated-spot.result c.index-run.result.now c.index.result.now c.rating.result.now c.rule_reference-rule.result
    c.requires (omega (arith, within, same, placed))
    c.index-spot.ensures c.index-rated-spot.is c.index-run.ensures c.index.ensures
    (subst (λ (o : OpenedRun). IsRuleReference c.rule_reference-rule.result (result_at (placed_of o).run spot.seq)) (sym c.index-rated-spot.is)
    c.rule_reference-rule.ensures)
    c.rating.ensures
