use Rattle.std.proofs.Common.{◌≡◌, ◌++◌, drop}
use Rattle.sarif_read.specs.Unmarked.{unmarked}
use Rattle.sarif_once.proofs.leaving.left_marks.Given as goal

abbrev pub invariant-loop-number : goal.invariant-loop-number
invariant-loop-number l = l.left.items ++ unmarked (drop l.number l.taken) (drop l.number l.marks) ≡ unmarked l.taken l.marks
