use Rattle.std.proofs.Common.{◌≡◌, ◌++◌, map, drop}
use Rattle.std.specs.List.{flat_map}
use Rattle.sarif_change.specs.Places.{elements_in}
use Rattle.sarif_read.specs.Internal.Listed.{value_at}
use Rattle.sarif_outside.proofs.places.elements_of.Given as goal

abbrev pub invariant-loop-node : goal.invariant-loop-node
invariant-loop-node l =
    map value_at l.found.items ++ flat_map (elements_in l.name) (map value_at (drop l.node-index l.nodes))
    ≡ flat_map (elements_in l.name) (map value_at l.nodes)
