use Rattle.std.proofs.Common.{◌≡◌, ◌≤◌, ◌++◌, drop}
use Rattle.sarif_copies.specs.Copies.{findings_before}
use Rattle.sarif_copies.proofs.apart.count_before.Given as goal

abbrev pub invariant-loop-is_copy : goal.invariant-loop-is_copy
invariant-loop-is_copy l = record {
  few : l.count ≤ l.is_copy-index;
  told : l.counts.items ++ findings_before l.count (drop l.is_copy-index l.copies) ≡ findings_before 0 l.copies;
}
