use Rattle.std.proofs.Common.{◌≡◌, ◌++◌, drop}
use Rattle.sarif_suppress.proofs.select.sequence_of.Given as goal

-- the numbers so far, and then those that are left
abbrev pub invariant-loop-number : goal.invariant-loop-number
invariant-loop-number l = l.found ++ drop l.number-index l.numbers ≡ l.numbers
