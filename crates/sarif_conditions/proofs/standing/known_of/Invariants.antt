use Rattle.std.proofs.Common.{◌≡◌, map, take}
use Rattle.sarif_conditions.specs.declared.standing.Standing.{Standing}
use Rattle.sarif_conditions.proofs.standing.known_of.Given as goal

-- the results so far
abbrev pub invariant-loop-standing : goal.invariant-loop-standing
invariant-loop-standing l = l.all ≡ map (λ (s : Standing). s.known) (take l.standing-index l.standings)
