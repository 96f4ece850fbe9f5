use Rattle.std.proofs.Common.{◌≡◌, ◌++◌, drop, map, take}
use Rattle.sarif_policy.specs.Condition.{any_matches}
use Rattle.sarif_suppress.specs.Internal.Marks.{marks_of}
use Rattle.sarif_conditions.specs.Decided.{currents}
use Rattle.sarif_conditions.specs.Internal.Tried.{passing}
use Rattle.sarif_conditions.specs.Judged.{judged_of}
use Rattle.sarif_conditions.proofs.trying.try_filed.Given as goal

-- which of the results so far match, and which of those that are left
abbrev pub invariant-loop-found : goal.invariant-loop-found
invariant-loop-found g l = record {
  told : l.matched.items ++ passing (any_matches l.filed.entries) (map judged_of (drop l.found-index l.results))
      ≡ passing (any_matches l.filed.entries) (map judged_of l.results);
  marked : l.marks ≡ marks_of l.filed (currents (map judged_of (take l.found-index l.results)));
}
