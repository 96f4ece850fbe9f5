use Rattle.std.proofs.Common.{◌≡◌, [], drop}
use Rattle.std.specs.BTreeSet.{keys}
use Rattle.sarif_suppress.specs.Internal.Numbers.{with_numbers}
use Rattle.sarif_suppress.proofs.select.set_of.Given as goal

-- the numbers so far, and then those that are left
abbrev pub invariant-loop-number : goal.invariant-loop-number
invariant-loop-number l = with_numbers (keys l.set) (drop l.number-index l.numbers) ≡ with_numbers [] l.numbers
