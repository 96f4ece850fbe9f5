use Rattle.std.proofs.Common.{◌≡◌, map, take}
use Rattle.sarif_conditions.specs.Internal.Deciding.{standing_before}
use Rattle.sarif_conditions.specs.Judged.{judged_of}
use Rattle.sarif_conditions.proofs.standing.standings_before.Given as goal

-- what is known about the results so far
abbrev pub invariant-loop-found : goal.invariant-loop-found
invariant-loop-found l = l.all ≡ map (λ r. standing_before (judged_of r)) (take l.found-index l.results)
