use Rattle.std.proofs.Common.{◌≡◌, ◌++◌}
use Rattle.sarif_judge.specs.Internal.Flattened.{within_shards}
use Rattle.sarif_judge.proofs.outcomes.append_shards.Given as goal

abbrev pub invariant-loop-shard : goal.invariant-loop-shard
invariant-loop-shard l = record {
  parts : l.fn.shards.items ≡ l.yielded ++ l.shard-iterator.rest.items;
  moved : l.all.items ++ within_shards l.shard-iterator.rest.items ≡ l.fn.all.items ++ within_shards l.fn.shards.items;
}
