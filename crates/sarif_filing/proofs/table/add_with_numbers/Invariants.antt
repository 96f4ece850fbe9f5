use Rattle.std.proofs.Common.{◌≡◌, ◌++◌, drop, nat_eq}
use Rattle.std.specs.List.{flat_map}
use Rattle.sarif_filing.specs.Numbers.{numbers_at}
use Rattle.sarif_filing.proofs.table.add_with_numbers.Given as goal

-- the numbers so far, and then those of the entries that are left
abbrev pub invariant-loop-number : goal.invariant-loop-number
invariant-loop-number g l =
    l.found.items ++ flat_map (numbers_at nat_eq l.table) (drop l.number-index l.numbers) ≡ l.fn.found.items ++ flat_map (numbers_at nat_eq l.table) l.numbers
