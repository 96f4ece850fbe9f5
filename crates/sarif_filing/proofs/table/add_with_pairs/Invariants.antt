use Rattle.std.proofs.Common.{◌≡◌, ◌++◌, drop}
use Rattle.std.specs.List.{flat_map}
use Rattle.sarif_entries.specs.Condition.{is_pair}
use Rattle.sarif_filing.specs.Numbers.{numbers_at}
use Rattle.sarif_filing.proofs.table.add_with_pairs.Given as goal

-- the numbers so far, and then those of the fingerprints that are left
abbrev pub invariant-loop-pair : goal.invariant-loop-pair
invariant-loop-pair g l =
    l.found.items ++ flat_map (numbers_at is_pair l.table) (drop l.pair-index l.pairs) ≡ l.fn.found.items ++ flat_map (numbers_at is_pair l.table) l.pairs
