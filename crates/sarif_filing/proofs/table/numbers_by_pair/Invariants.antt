use Rattle.std.proofs.Common.{◌≡◌, ◌++◌, ℕ, List, drop}
use Rattle.sarif_entries.specs.Internal.Filing.{asks_for_pair}
use Rattle.sarif_entries.specs.Condition.{is_pair}
use Rattle.sarif_filing.specs.Numbers.{numbers_from}
use Rattle.sarif_filing.specs.Numbers.{numbers_at}
use Rattle.sarif_filing.proofs.table.numbers_by_pair.Given as goal

-- for each fingerprint the numbers so far, and then those of the entries that are left
abbrev pub invariant-loop-number : goal.invariant-loop-number
invariant-loop-number g l =
    (q : List ℕ × List ℕ) → numbers_at is_pair l.table q ++ numbers_from (asks_for_pair l.which q) l.number (drop l.number l.entries)
    ≡ numbers_from (asks_for_pair l.which q) 0 l.entries
