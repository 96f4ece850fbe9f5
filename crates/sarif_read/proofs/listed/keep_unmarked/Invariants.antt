use Rattle.std.proofs.Common.{◌≡◌, ◌+◌, ◌++◌, drop, length}
use Rattle.sarif_read.specs.Unmarked.{unmarked}
use Rattle.sarif_read.proofs.listed.keep_unmarked.Given as goal

abbrev pub invariant-loop-node : goal.invariant-loop-node
invariant-loop-node l = record {
  parts : l.fn.nodes.items ≡ l.yielded ++ l.node-iterator.rest.items;
  counted : l.number + length l.node-iterator.rest.items ≡ length l.marked;
  told : l.kept.items ++ unmarked (drop l.number l.marked) l.node-iterator.rest.items ≡ unmarked l.marked l.fn.nodes.items;
}
