use Rattle.std.proofs.Common.{◌≡◌, drop}
use Rattle.sarif_policy.specs.Decimal.{without_zeros}
use Rattle.sarif_policy.proofs.decimal.without_zeros.Given as goal

-- the digits so far are zeros
abbrev pub invariant-loop-at : goal.invariant-loop-at
invariant-loop-at l = without_zeros (drop l.at l.digits) ≡ without_zeros l.digits
