use Rattle.std.proofs.Common.{◌≡◌, ◌<◌, ◌∙◌, ap, get_or, length, arith}
use Rattle.std.proofs.lemmas.List.{length-map}
use Rattle.sarif_runs.specs.declared.spots.Spot.{Spot}
use Rattle.sarif_outside.specs.Internal.Asked.{placed_looked, scoped}
use Rattle.sarif_outside.specs.declared.asked.LookedRun.{LookedRun}
use Rattle.sarif_outside.proofs.ListedAsked.{asked_next}
use Rattle.sarif_outside.proofs.marking.list_asked.Goals as goal

pub loop-number-preserved : goal.loop-number-preserved
loop-number-preserved c = λ change looked.
    let spots = c.args.spots.now in
    let n = c.loop-number.number in
    let none : Spot = record { run = 0; seq = 0 } in
    let within : n < length spots = c.loop-number-test.true in
    let in_runs = (c.requires.within n none within).0 in
    let runs = length-map c.args.runs.now placed_looked in
    let run = c.index-runs-spot.result in
    let in_looked : (get_or spots n none).run < length c.args.runs.now = omega (arith, in_runs, runs) in
    let this : scoped run.change ≡ change =
    ap (λ (r : LookedRun). scoped r.change) c.index-runs-spot.is ∙ looked (get_or spots n none).run run in_looked in
    asked_next change c.args.runs.now spots c.args.asked.now n run none _ _ _
    within (omega (arith, within, c.requires.each)) in_looked
    c.index-runs-spot.is this c.in_ok-push_asked.ensures (c.loop-number.invariant change looked)
