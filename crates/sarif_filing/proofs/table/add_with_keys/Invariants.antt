use Rattle.std.proofs.Common.{◌≡◌, ◌++◌, drop, bytes_eq}
use Rattle.std.specs.Cmp.Lexicographic.{pointwise}
use Rattle.std.specs.List.{flat_map}
use Rattle.sarif_filing.specs.Numbers.{numbers_at}
use Rattle.sarif_filing.proofs.table.add_with_keys.Given as goal

-- the numbers so far, and then those of the keys that are left
abbrev pub invariant-loop-key : goal.invariant-loop-key
invariant-loop-key g l =
    l.found.items ++ flat_map (numbers_at (pointwise bytes_eq) l.table) (drop l.key-index l.keys)
    ≡ l.fn.found.items ++ flat_map (numbers_at (pointwise bytes_eq) l.table) l.keys
