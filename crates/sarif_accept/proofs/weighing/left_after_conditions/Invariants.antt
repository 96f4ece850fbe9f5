use Rattle.std.proofs.Common.{◌≡◌, ◌+◌, drop}
use Rattle.sarif_accept.specs.Internal.Weighing.{weight_in}
use Rattle.sarif_accept.proofs.weighing.left_after_conditions.Given as goal

-- what was left is so much more than what the conditions so far weigh
abbrev pub invariant-loop-condition : goal.invariant-loop-condition
invariant-loop-condition l =
    l.fn.left + weight_in (drop l.condition-index l.conditions) ≡ l.rest + weight_in l.conditions
