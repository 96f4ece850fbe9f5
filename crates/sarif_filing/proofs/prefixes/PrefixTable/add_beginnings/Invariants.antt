use Rattle.std.proofs.Common.{◌≡◌, ◌++◌, take}
use Rattle.std.specs.List.{flat_map}
use Rattle.sarif_filing.specs.Internal.Prefixes.{beginnings, found_under, hash_of}
use Rattle.sarif_filing.proofs.prefixes.PrefixTable.add_beginnings.Given as goal

-- the hash of what was gone through, and the numbers that were found for its beginnings
abbrev pub invariant-loop-at : goal.invariant-loop-at
invariant-loop-at g l = record {
  hash : l.hash ≡ hash_of l.self.base (take l.at l.text);
  found : l.found.items ≡ l.fn.found.items ++ flat_map (found_under l.self) (beginnings (take l.at l.text));
}
