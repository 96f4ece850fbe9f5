use Rattle.std.proofs.Common.{◌≡◌, map, drop}
use Rattle.serde_json.specs.View.{view}
use Rattle.sarif_model.specs.Members.{are_objects}
use Rattle.sarif_model.proofs.members.are_objects.Given as goal

abbrev pub invariant-loop-value : goal.invariant-loop-value
invariant-loop-value l =
    are_objects (map view (drop l.value-index l.values)) ≡ are_objects (map view l.values)
