use Rattle.std.proofs.Common.{◌≡◌, ◌++◌, drop}
use Rattle.sarif_conditions.specs.Internal.Deciding.{with_outcomes}
use Rattle.sarif_conditions.proofs.standing.with_outcomes.Given as goal

-- what is known about the results so far, and then about those that are left
abbrev pub invariant-loop-number : goal.invariant-loop-number
invariant-loop-number l =
    l.all ++ with_outcomes l.fails (drop l.number l.standings) (drop l.number l.outcomes) ≡ with_outcomes l.fails l.standings l.outcomes
