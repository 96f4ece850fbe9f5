use Rattle.std.proofs.Common.{◌≡◌, ◌++◌}
use Rattle.sarif_outside.proofs.places.push_each.Given as goal

abbrev pub invariant-loop-node : goal.invariant-loop-node
invariant-loop-node l = l.found.items ++ l.node-iterator.rest.items ≡ l.fn.found.items ++ l.fn.nodes.items
