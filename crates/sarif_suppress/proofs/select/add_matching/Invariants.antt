use Rattle.std.proofs.Common.{◌≡◌, drop, filter}
use Rattle.std.specs.BTreeSet.{keys}
use Rattle.sarif_entries.specs.Matching.{matches}
use Rattle.sarif_suppress.specs.Internal.Numbers.{passes_at, with_numbers}
use Rattle.sarif_suppress.proofs.select.add_matching.Given as goal

-- the numbers found, and then those found in what is left
abbrev pub invariant-loop-number : goal.invariant-loop-number
invariant-loop-number l =
    with_numbers (keys l.found) (filter (passes_at (λ e. matches l.today e l.given.record.now) l.entries) (drop l.number-index l.numbers))
    ≡ with_numbers (keys l.fn.found) (filter (passes_at (λ e. matches l.today e l.given.record.now) l.entries) l.numbers)
