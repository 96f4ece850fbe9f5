use Rattle.std.proofs.Common.{◌≡◌, ◌++◌, map, drop}
use Rattle.sarif_policy.specs.Condition.{any_matches}
use Rattle.sarif_conditions.specs.Internal.Tried.{passing}
use Rattle.sarif_conditions.specs.Judged.{judged_of}
use Rattle.sarif_conditions.proofs.trying.match_each.Given as goal

-- the marks so far, and then those of the results that are left
abbrev pub invariant-loop-found : goal.invariant-loop-found
invariant-loop-found l =
    l.marks.items ++ passing (any_matches l.filters) (map judged_of (drop l.found-index l.results))
    ≡ passing (any_matches l.filters) (map judged_of l.results)
