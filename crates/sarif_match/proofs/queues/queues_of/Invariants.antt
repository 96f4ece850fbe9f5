use Rattle.std.proofs.Common.{◌≡◌, take}
use Rattle.sarif_match.specs.Pairing.{places}
use Rattle.sarif_match.specs.Internal.Queues.{same_key, queue_at}
use Rattle.sarif_match.specs.declared.tier_key.Key.{Key}
use Rattle.sarif_match.proofs.queues.queues_of.Given as goal

abbrev pub invariant-loop-number : goal.invariant-loop-number
invariant-loop-number g l =
    (q : Key) → queue_at l.queues q ≡ places same_key q (take l.number-index l.baseline)
