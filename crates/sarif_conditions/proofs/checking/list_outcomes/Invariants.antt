use Rattle.std.proofs.Common.{◌≡◌, ◌++◌, map, drop}
use Rattle.sarif_conditions.specs.Internal.Tried.{outcomes_by}
use Rattle.sarif_conditions.specs.Judged.{judged_of}
use Rattle.sarif_conditions.proofs.checking.list_outcomes.Given as goal

-- what is decided about the results so far, and then about those that are left
abbrev pub invariant-loop-number : goal.invariant-loop-number
invariant-loop-number l =
    l.all.items ++ outcomes_by l.condition (map judged_of (drop l.number l.results)) (drop l.number l.only) (drop l.number l.except)
    ≡ outcomes_by l.condition (map judged_of l.results) l.only l.except
