use Rattle.std.proofs.Common.{◌≡◌, ◌++◌, drop}
use Rattle.sarif_entries.specs.Internal.Filing.{asks_for_none}
use Rattle.sarif_filing.specs.Numbers.{numbers_from}
use Rattle.sarif_filing.proofs.table.numbers_of_others.Given as goal

-- the numbers so far, and then those of the entries that are left
abbrev pub invariant-loop-number : goal.invariant-loop-number
invariant-loop-number l =
    l.numbers.items ++ numbers_from asks_for_none l.number (drop l.number l.entries) ≡ numbers_from asks_for_none 0 l.entries
