use Rattle.std.proofs.Common.{◌≡◌, ◌++◌, drop}
use Rattle.sarif_upkeep.specs.Hiding.{looked_at}
use Rattle.sarif_upkeep.specs.Internal.Hiding.{lent, marks_left}
use Rattle.sarif_upkeep.proofs.hiding.mark_looked_at.Given as goal

abbrev pub invariant-loop-number : goal.invariant-loop-number
invariant-loop-number l =
    l.marks.items ++ looked_at (drop l.number l.hidden) (marks_left l.number (lent l.chosen)) ≡ looked_at l.hidden (lent l.chosen)
