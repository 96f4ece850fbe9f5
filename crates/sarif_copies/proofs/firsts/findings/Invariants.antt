use Rattle.std.proofs.Common.{◌≡◌, ◌++◌, take, drop}
use Rattle.sarif_copies.specs.Copies.{findings_after, findings_of}
use Rattle.sarif_copies.specs.Internal.Table.{IsTableOf}
use Rattle.sarif_copies.proofs.firsts.findings.Given as goal

abbrev pub invariant-loop-found : goal.invariant-loop-found
invariant-loop-found g l = record {
  number : l.number ≡ l.found-index;
  table : IsTableOf (take l.found-index l.records) l.table;
  told : l.firsts.items ++ findings_after (take l.found-index l.records) (drop l.found-index l.records) ≡ findings_of l.records;
}
