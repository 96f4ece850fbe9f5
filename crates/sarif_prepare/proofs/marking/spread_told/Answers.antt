use Rattle.std.proofs.Common.{◌<◌, length, refl, arith}
use Rattle.sarif_prepare.proofs.MarkedRuns.{spread_end, spread_more, spread_next}
use Rattle.sarif_prepare.proofs.marking.spread_told.Goals as goal

pub loop-number-preserved : goal.loop-number-preserved
loop-number-preserved c =
    let drafts = c.args.drafts.now in
    let states = c.args.states.now in
    let n = c.loop-number.number in
    let within : n < length drafts = c.loop-number-test.true in
    let in_states : n < length states = omega (arith, within, c.requires) in
    let made = c.in_ok-next.ensures in record {
      spread =
          spread_next c.args.reporting.now drafts states c.args.marks.now n c.loop-number.next c.index-drafts-number.result _ _ _ _
          c.loop-number.spread.items _ _ _ within in_states c.index-drafts-number.is refl c.is_told-told.ensures made.pushed made.next
          c.loop-number.invariant.spread;
      few = spread_more c.loop-number.spread.items _ _ c.loop-number.next _ _ made.pushed made.next c.loop-number.invariant.few;
    }

pub returns : goal.returns
returns c =
    spread_end c.args.reporting.now c.args.drafts.now c.args.states.now c.args.marks.now c.loop-number.number c.loop-number.next _ _
    (omega (arith, c.loop-number-test.false)) c.loop-number.invariant.spread
