use Rattle.std.proofs.Common.{◌≡◌, ◌++◌, take}
use Rattle.sarif_policy.proofs.decimal.push_all.Given as goal

abbrev pub invariant-loop-digit : goal.invariant-loop-digit
invariant-loop-digit l = l.digits ≡ l.initial.digits ++ take l.digit-index l.more
