use Rattle.std.proofs.Common.{◌≡◌, ◌++◌, ℕ, drop, nat_eq}
use Rattle.sarif_filing.specs.Numbers.{numbers_from, numbers_at}
use Rattle.sarif_filing.specs.Internal.Prefixes.{asks_for_hash}
use Rattle.sarif_filing.proofs.prefixes.numbers_by_hash.Given as goal

-- for each hash the numbers so far, and then those of the entries that are left
abbrev pub invariant-loop-number : goal.invariant-loop-number
invariant-loop-number g l =
    (q : ℕ) → numbers_at nat_eq l.table q ++ numbers_from (asks_for_hash l.base q) l.number (drop l.number l.entries)
    ≡ numbers_from (asks_for_hash l.base q) 0 l.entries
