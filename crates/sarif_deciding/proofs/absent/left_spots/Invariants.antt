use Rattle.std.proofs.Common.{◌≡◌, ◌++◌, drop}
use Rattle.sarif_read.specs.Unmarked.{unmarked}
use Rattle.sarif_deciding.proofs.absent.left_spots.Given as goal

abbrev pub invariant-loop-number : goal.invariant-loop-number
invariant-loop-number l = l.list.items ++ unmarked (drop l.number l.taken) (drop l.number l.spots) ≡ unmarked l.taken l.spots
