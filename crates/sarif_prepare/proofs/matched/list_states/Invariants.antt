use Rattle.std.proofs.Common.{◌≡◌, Some, map, take}
use Rattle.sarif_prepare.proofs.matched.list_states.Given as goal

abbrev pub invariant-loop-standing : goal.invariant-loop-standing
invariant-loop-standing l = l.states.items ≡ map (λ standing. Some standing.state) (take l.standing-index l.standings)
