use Rattle.std.proofs.Common.{◌≡◌, ◌++◌, drop}
use Rattle.sarif_entries.proofs.condition.copy_of_pairs.Given as goal

-- those so far, and then those that are left
abbrev pub invariant-loop-name : goal.invariant-loop-name
invariant-loop-name l = l.copy ++ drop l.name-index l.pairs ≡ l.pairs
