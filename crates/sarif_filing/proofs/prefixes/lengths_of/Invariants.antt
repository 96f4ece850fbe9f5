use Rattle.std.proofs.Common.{◌≡◌, ℕ, take}
use Rattle.sarif_filing.specs.Internal.Prefixes.{is_listed, is_length}
use Rattle.sarif_filing.proofs.prefixes.lengths_of.Given as goal

-- the lengths of the prefixes gone through are marked
abbrev pub invariant-loop-entry : goal.invariant-loop-entry
invariant-loop-entry l =
    (n : ℕ) → is_listed l.lengths.items n ≡ is_length n (take l.entry-index l.entries)
