use Rattle.std.proofs.Common.{◌≡◌, [], ◌++◌, length, take, drop}
use Rattle.sarif_match.specs.Pairing.{places, pairs_from}
use Rattle.sarif_match.specs.Internal.Queues.{same_key, queue_at}
use Rattle.sarif_match.specs.declared.tier_key.Key.{Key}
use Rattle.sarif_match.proofs.pairing.pair_up.Given as goal

abbrev pub invariant-loop-number : goal.invariant-loop-number
invariant-loop-number g l = record {
  queues : (q : Key) → queue_at l.queues q ≡ drop (length (places same_key q (take l.number-index l.current))) (places same_key q l.baseline);
  told : l.pairs.items ++ pairs_from same_key (take l.number-index l.current) (drop l.number-index l.current) l.baseline
      ≡ pairs_from same_key [] l.current l.baseline;
}
