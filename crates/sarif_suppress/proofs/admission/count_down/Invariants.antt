use Rattle.std.proofs.Common.{◌≡◌, drop}
use Rattle.sarif_suppress.specs.Internal.Admission.{counted_down}
use Rattle.sarif_suppress.proofs.admission.count_down.Given as goal

-- what is left so far, counted down for the numbers that are left
abbrev pub invariant-loop-number : goal.invariant-loop-number
invariant-loop-number l =
    counted_down l.left (drop l.number-index l.numbers) ≡ counted_down l.fn.left l.numbers
