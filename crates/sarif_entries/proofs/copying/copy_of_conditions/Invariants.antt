use Rattle.std.proofs.Common.{◌≡◌, ◌++◌, drop}
use Rattle.sarif_entries.proofs.copying.copy_of_conditions.Given as goal

-- those so far, and then those that are left
abbrev pub invariant-loop-condition : goal.invariant-loop-condition
invariant-loop-condition l = l.copy ++ drop l.condition-index l.conditions ≡ l.conditions
