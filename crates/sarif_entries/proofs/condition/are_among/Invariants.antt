use Rattle.std.proofs.Common.{◌≡◌, ℕ, drop}
use Rattle.sarif_entries.specs.Condition.{are_among}
use Rattle.sarif_entries.proofs.condition.are_among.Given as goal

-- the pairs gone through are there, and what is left is an end of what was found
abbrev pub invariant-loop-pair : goal.invariant-loop-pair
invariant-loop-pair l = record {
  told : are_among (drop l.pair-index l.wanted) l.found ≡ are_among l.wanted l.found;
  end : (n : ℕ) × (l.left ≡ drop n l.found);
}
