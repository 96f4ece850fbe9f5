use Rattle.std.proofs.Common.{◌<◌, length, arith}
use Rattle.std.proofs.lemmas.List.{length-map}
use Rattle.sarif_runs.specs.declared.spots.Spot.{Spot}
use Rattle.sarif_prepare.specs.Internal.Telling.{placed_told}
use Rattle.sarif_prepare.proofs.ListedTold.{told_next}
use Rattle.sarif_prepare.proofs.telling.list_told.Goals as goal

pub loop-number-preserved : goal.loop-number-preserved
loop-number-preserved c =
    let spots = c.args.spots.now in
    let n = c.loop-number.number in
    let none : Spot = record { run = 0; seq = 0 } in
    let within : n < length spots = c.loop-number-test.true in
    let in_runs = (c.requires.within n none within).0 in
    let runs = length-map c.args.runs.now placed_told in
    told_next c.args.reporting.now c.args.runs.now spots c.args.drafts.now c.args.states.now n c.index-runs-spot.result none c.index-drafts-number.result _ _ _
    within (omega (arith, within, c.requires.drafts)) (omega (arith, within, c.requires.states)) (omega (arith, in_runs, runs))
    c.index-runs-spot.is c.index-drafts-number.is c.in_ok-push_told.ensures c.loop-number.invariant
