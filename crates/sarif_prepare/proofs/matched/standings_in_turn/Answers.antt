use Rattle.std.proofs.Common.{ap, ◌∙◌, arith}
use Rattle.sarif_known.specs.Standing.{standing_of}
use Rattle.sarif_log.specs.LogBy.{partner_in}
use Rattle.sarif_prepare.proofs.StandingsMore.{standings_more}
use Rattle.sarif_prepare.proofs.matched.standings_in_turn.Goals as goal

pub loop-record-preserved : goal.loop-record-preserved
loop-record-preserved c =
    let v = c.args.matches.version in
    let bs = c.args.matches.baseline.now in
    let r = c.record-item.result in
    let said = c.standing_beside.ensures ∙ ap (λ p. standing_of v r (partner_in bs p)) c.partner-partner.ensures in record {
      counted = omega (arith, c.loop-record.invariant.counted);
      told =
          rw c.in_ok-push.ensures.items
          (standings_more v bs c.args.matches.matching.now c.args.current.now c.loop-record.standings.items c.loop-record.record-index
          c.loop-record.number r c.standing_beside.result _ c.loop-record-test.true c.record-item.is said c.loop-record.invariant.told);
    }
