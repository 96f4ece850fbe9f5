use Rattle.std.proofs.Common.{◌≡◌, map, not, take}
use Rattle.sarif_deciding.proofs.inside.list_others.Given as goal

abbrev pub invariant-loop-mark : goal.invariant-loop-mark
invariant-loop-mark l = l.others.items ≡ map not (take l.mark-index l.marks)
