use Rattle.std.proofs.Common.{◌≡◌, ◌++◌, length}
use Rattle.sarif_judge.specs.Internal.Flattened.{flattened_from}
use Rattle.sarif_judge.proofs.outcomes.flatten.Given as goal

abbrev pub invariant-loop-shards : goal.invariant-loop-shards
invariant-loop-shards l = l.all.items ++ flattened_from l.stack.items ≡ flattened_from l.fn.stack.items

abbrev pub decreases-loop-shards : goal.decreases-loop-shards
decreases-loop-shards l = length l.stack.items
