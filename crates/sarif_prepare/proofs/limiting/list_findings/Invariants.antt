use Rattle.std.proofs.Common.{◌≡◌, ◌++◌, drop, length}
use Rattle.sarif_read.specs.Unmarked.{unmarked}
use Rattle.sarif_prepare.proofs.limiting.list_findings.Given as goal

abbrev pub invariant-loop-is_copy : goal.invariant-loop-is_copy
invariant-loop-is_copy l = record {
  long : length l.records.rest.items ≡ length (drop l.is_copy-index l.copies);
  findings : l.findings.items ++ unmarked (drop l.is_copy-index l.copies) l.records.rest.items ≡ unmarked l.copies l.fn.records.items;
}
