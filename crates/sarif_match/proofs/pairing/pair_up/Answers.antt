use Rattle.std.proofs.Common.{◌≡◌, ℕ, slice_get, ap, ◌∙◌, List, rules}
use Rattle.sarif_match.specs.Internal.Queues.{same_key}
use Rattle.sarif_match.proofs.PairingLemmas.{pushed, queue_emptied, told_more}
use Rattle.sarif_match.proofs.pairing.pair_up.Goals as goal
use Rattle.sarif_match.proofs.pairing.pair_up.Goals.{in-Some+in_ok-push, in_default}

pub loop-number-preserved : goal.loop-number-preserved
loop-number-preserved g c =
    let e = c.loop-number-item.result in
    let at = c.loop-number.number-index in
    let new : c.match-take_first.pairs.items ≡ pushed c.loop-number.pairs.items e.0 c.take_first.result =
    elim c.match-take_first.branch [ in-Some+in_ok-push w ↦ search rules | in_default w ↦ search rules ] in
    let popped = c.take_first.ensures.first ∙ ap (λ (ns : List ℕ). slice_get ns 0) (c.loop-number.invariant.queues e.1) in
    record {
      queues = λ q. queue_emptied same_key q c.args.current.now c.args.baseline.now at e _ _ c.loop-number-item.is c.loop-number-test.true
          (c.take_first.ensures.rest q) (c.loop-number.invariant.queues q);
      told = told_more same_key c.args.current.now c.args.baseline.now at e c.loop-number.pairs.items c.match-take_first.pairs.items
          c.take_first.result _ c.loop-number-item.is c.loop-number-test.true popped new c.loop-number.invariant.told;
    }
