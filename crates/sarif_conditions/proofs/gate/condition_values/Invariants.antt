use Rattle.std.proofs.Common.{◌≡◌, map, take}
use Rattle.serde_json.specs.View.{view}
use Rattle.sarif_conditions.specs.Gate.{condition_data}
use Rattle.sarif_conditions.proofs.gate.condition_values.Given as goal

-- the objects of the conditions so far
abbrev pub invariant-loop-condition : goal.invariant-loop-condition
invariant-loop-condition l = map view l.values.items ≡ map condition_data (take l.condition-index l.facts)
