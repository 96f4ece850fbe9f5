use Rattle.std.proofs.Common.{◌≡◌, ◌++◌, drop, filter}
use Rattle.sarif_suppress.specs.Internal.Admission.{has_left_at}
use Rattle.sarif_suppress.proofs.admission.list_left.Given as goal

-- the numbers found so far, and then those among what is left
abbrev pub invariant-loop-number : goal.invariant-loop-number
invariant-loop-number l =
    l.admitted ++ filter (has_left_at l.left) (drop l.number-index l.numbers) ≡ filter (has_left_at l.left) l.numbers
