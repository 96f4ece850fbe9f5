use Rattle.std.proofs.Common.{◌≡◌, ◌++◌, ℕ, List, drop}
use Rattle.sarif_entries.specs.Internal.Filing.{asks_for_snippet}
use Rattle.sarif_filing.specs.Numbers.{numbers_from}
use Rattle.sarif_filing.specs.Internal.Snippets.{numbers_within}
use Rattle.sarif_filing.proofs.snippets.numbers_by_snippet.Given as goal

-- for each snippet and key the numbers so far, and then those of the entries that are left
abbrev pub invariant-loop-number : goal.invariant-loop-number
invariant-loop-number g l =
    (text : List ℕ) (q : List (List ℕ)) → numbers_within l.table text q ++ numbers_from (asks_for_snippet text q) l.number (drop l.number l.entries)
    ≡ numbers_from (asks_for_snippet text q) 0 l.entries
