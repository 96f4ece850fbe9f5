use Rattle.std.proofs.Common.{◌≡◌, drop}
use Rattle.sarif_policy.specs.Decimal.{in_order}
use Rattle.sarif_policy.proofs.decimal.are_in_order.Given as goal

-- the digits that are left decide
abbrev pub invariant-loop-at : goal.invariant-loop-at
invariant-loop-at l = in_order (drop l.at l.digits) (drop l.at l.others) ≡ in_order l.digits l.others
