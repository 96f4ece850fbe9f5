use Rattle.std.proofs.Common.{◌≡◌, ◌++◌, length}
use Rattle.sarif_judge.specs.Internal.Flattened.{flattened, flattened_from}
use Rattle.sarif_judge.proofs.outcomes.stack_shards.Given as goal

abbrev pub invariant-loop-shards : goal.invariant-loop-shards
invariant-loop-shards l = flattened l.lists ++ flattened_from l.stack.items ≡ flattened l.fn.lists

abbrev pub decreases-loop-shards : goal.decreases-loop-shards
decreases-loop-shards l = length l.lists
