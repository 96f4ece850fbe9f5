use Rattle.std.proofs.Common.{◌≡◌, map, drop}
use Rattle.sarif_read.specs.Internal.Listed.{value_at}
use Rattle.sarif_model.specs.Members.{are_objects}
use Rattle.sarif_members.proofs.node_members.are_objects.Given as goal

abbrev pub invariant-loop-node : goal.invariant-loop-node
invariant-loop-node l =
    are_objects (map value_at (drop l.node-index l.nodes)) ≡ are_objects (map value_at l.nodes)
