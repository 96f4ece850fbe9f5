use Rattle.std.proofs.Common.{◌≡◌, map, drop}
use Rattle.serde_json.specs.View.{view}
use Rattle.sarif_policy.specs.Reading.{no_states, states_from}
use Rattle.sarif_policy.proofs.read_condition.states_of.Given as goal

-- the states so far and those of the values that are left are all of them
abbrev pub invariant-loop-value : goal.invariant-loop-value
invariant-loop-value l =
    states_from l.states (map view (drop l.value-index l.values)) ≡ states_from no_states (map view l.values)
