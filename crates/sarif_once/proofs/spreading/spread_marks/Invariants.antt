use Rattle.std.proofs.Common.{◌≡◌, ◌++◌, drop, false}
use Rattle.sarif_copies.specs.Copies.{spread}
use Rattle.sarif_once.proofs.spreading.spread_marks.Given as goal

abbrev pub invariant-loop-number : goal.invariant-loop-number
invariant-loop-number l = l.all.items ++ spread false (drop l.number-index l.numbers) l.marks ≡ spread false l.numbers l.marks
