use Rattle.std.proofs.Common.{◌≡◌, map, take}
use Rattle.sarif_conditions.specs.Internal.Deciding.{impact_in}
use Rattle.sarif_conditions.proofs.standing.impacts_of.Given as goal

-- what the results so far do
abbrev pub invariant-loop-standing : goal.invariant-loop-standing
invariant-loop-standing l = l.all ≡ map impact_in (take l.standing-index l.standings)
