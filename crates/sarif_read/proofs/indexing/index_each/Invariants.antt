use Rattle.std.proofs.Common.{◌≡◌, ◌≤◌, map, take, drop}
use Rattle.sarif_read.specs.Reading.{check_each}
use Rattle.sarif_model.specs.Run.{results_total}
use Rattle.sarif_read.specs.Internal.Listed.{value_at, AreOrdered}
use Rattle.sarif_read.specs.Internal.Indexed.{run_of}
use Rattle.sarif_read.proofs.indexing.index_each.Given as goal
use Rattle.sarif_model.specs.Limits.{most_results}

abbrev pub invariant-loop-node : goal.invariant-loop-node
invariant-loop-node l = record {
  number : l.number ≡ l.node-index;
  few : l.before ≤ most_results;
  sum : l.before ≡ results_total (map run_of l.runs.items);
  runs : map run_of l.runs.items ≡ map value_at (take l.node-index l.nodes);
  ordered : AreOrdered (drop l.node-index l.nodes);
  told : check_each l.allow_external l.number l.before (map value_at (drop l.node-index l.nodes)) ≡ check_each l.allow_external 0 0 (map value_at l.nodes);
}
