use Rattle.std.proofs.Common.{◌≡◌, ◌++◌, drop}
use Rattle.sarif_once.specs.Once.{marked}
use Rattle.sarif_once.proofs.leaving.taken_copies.Given as goal

abbrev pub invariant-loop-number : goal.invariant-loop-number
invariant-loop-number l = l.found.items ++ marked (drop l.number l.marks) (drop l.number l.taken) ≡ marked l.marks l.taken
