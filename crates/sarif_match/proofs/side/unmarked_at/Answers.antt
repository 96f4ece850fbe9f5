use Rattle.sarif_match.proofs.NamedLemmas.{unmarked_step}
use Rattle.sarif_match.proofs.side.unmarked_at.Goals as goal

pub loop-number-preserved : goal.loop-number-preserved
loop-number-preserved c =
    unmarked_step c.args.tier.now c.args.marks.now c.args.findings.now c.loop-number.number c.index-findings-number.result _ _
    c.index-findings-number.is c.loop-number-test.true c.in_ok-push_unmarked.ensures c.loop-number.invariant
