use Rattle.sarif_match.proofs.NamedLemmas.{grouped_step}
use Rattle.sarif_match.proofs.side.grouped_at.Goals as goal

pub loop-number-preserved : goal.loop-number-preserved
loop-number-preserved c =
    grouped_step c.args.tier.now c.args.findings.now c.args.marks.now c.args.group.now c.loop-number.number-index c.loop-number-item.result
    _ _ c.loop-number-item.is c.loop-number-test.true c.in_ok-push_numbered.ensures c.loop-number.invariant
