use Rattle.std.proofs.Common.{◌≡◌, map, take}
use Rattle.sarif_deciding.specs.Merge.{state_in}
use Rattle.sarif_deciding.proofs.current.list_states.Given as goal

abbrev pub invariant-loop-state : goal.invariant-loop-state
invariant-loop-state l = l.list.items ≡ map state_in (take l.state-index l.states)
