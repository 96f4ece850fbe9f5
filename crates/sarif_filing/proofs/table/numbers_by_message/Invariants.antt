use Rattle.std.proofs.Common.{◌≡◌, ◌++◌, ℕ, List, drop, bytes_eq}
use Rattle.std.specs.Cmp.Lexicographic.{pointwise}
use Rattle.sarif_entries.specs.Internal.Filing.{asks_for_message}
use Rattle.sarif_filing.specs.Numbers.{numbers_from}
use Rattle.sarif_filing.specs.Numbers.{numbers_at}
use Rattle.sarif_filing.proofs.table.numbers_by_message.Given as goal

-- for each key the numbers so far, and then those of the entries that are left
abbrev pub invariant-loop-number : goal.invariant-loop-number
invariant-loop-number g l =
    (q : List (List ℕ)) → numbers_at (pointwise bytes_eq) l.table q ++ numbers_from (asks_for_message q) l.number (drop l.number l.entries)
    ≡ numbers_from (asks_for_message q) 0 l.entries
