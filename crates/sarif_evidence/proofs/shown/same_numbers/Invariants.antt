use Rattle.std.proofs.Common.{◌≡◌, take}
use Rattle.sarif_evidence.proofs.shown.same_numbers.Given as goal

-- those so far
abbrev pub invariant-loop-number : goal.invariant-loop-number
invariant-loop-number l = l.same ≡ take l.number-index l.numbers
