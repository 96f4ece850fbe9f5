use Rattle.sarif_match.specs.Internal.Queues.{same_key}
use Rattle.sarif_match.proofs.PairingLemmas.{queue_filled}
use Rattle.sarif_match.proofs.queues.queues_of.Goals as goal

pub loop-number-preserved : goal.loop-number-preserved
loop-number-preserved g c = λ q.
    queue_filled same_key q c.args.baseline.now c.loop-number.number-index c.loop-number-item.result _ _ c.loop-number-item.is
    c.loop-number-test.true (c.in_ok-add_last.ensures q) (c.loop-number.invariant q)
