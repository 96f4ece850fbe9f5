use Rattle.std.proofs.Common.{◌≡◌, ◌++◌, ℕ, drop, nat_eq}
use Rattle.sarif_entries.specs.Internal.Filing.{asks_for_number}
use Rattle.sarif_filing.specs.Numbers.{numbers_from}
use Rattle.sarif_filing.specs.Numbers.{numbers_at}
use Rattle.sarif_filing.proofs.table.numbers_by_number.Given as goal

-- for each number of an entry with `max` the numbers so far, followed by the numbers of the remaining entries
abbrev pub invariant-loop-number : goal.invariant-loop-number
invariant-loop-number g l =
    (q : ℕ) → numbers_at nat_eq l.table q ++ numbers_from (asks_for_number q) l.number (drop l.number l.entries) ≡ numbers_from (asks_for_number q) 0 l.entries
