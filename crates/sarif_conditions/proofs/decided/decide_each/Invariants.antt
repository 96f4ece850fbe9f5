use Rattle.std.proofs.Common.{◌≡◌, map, take}
use Rattle.sarif_conditions.specs.Internal.Deciding.{deciding_of}
use Rattle.sarif_conditions.specs.Judged.{judged_of}
use Rattle.sarif_conditions.proofs.decided.decide_each.Given as goal

-- what the conditions so far decide
abbrev pub invariant-loop-condition : goal.invariant-loop-condition
invariant-loop-condition g l = l.all ≡ deciding_of (take l.condition-index l.conditions) (map judged_of l.results)
