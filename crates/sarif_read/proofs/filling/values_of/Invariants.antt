use Rattle.std.proofs.Common.{◌≡◌, map, take}
use Rattle.serde_json.specs.View.{view}
use Rattle.sarif_read.specs.Internal.Listed.{value_at}
use Rattle.sarif_read.proofs.filling.values_of.Given as goal

abbrev pub invariant-loop-node : goal.invariant-loop-node
invariant-loop-node l = map view l.values.items ≡ map value_at (take l.node-index l.nodes)
