use Rattle.std.proofs.Common.{◌≡◌, drop}
use Rattle.sarif_entries.specs.Condition.{of_kind}
use Rattle.sarif_entries.proofs.condition.of_kind.Given as goal

-- no condition so far is of the kind
abbrev pub invariant-loop-condition : goal.invariant-loop-condition
invariant-loop-condition l =
    of_kind l.kind (drop l.condition-index l.conditions) ≡ of_kind l.kind l.conditions
