use Rattle.std.proofs.Common.{◌≡◌, ◌++◌, take, drop, length, map}
use Rattle.sarif_copies.specs.Copies.{findings_after, findings_of}
use Rattle.sarif_copies.specs.Internal.Table.{IsTableOf}
use Rattle.sarif_copies.proofs.firsts.findings_among.Given as goal

abbrev pub invariant-loop-found : goal.invariant-loop-found
invariant-loop-found g l = record {
  number : l.number ≡ l.found-index;
  table : IsTableOf (map (λ r. r.now) (take l.found-index l.records)) l.table;
  count : length l.firsts.items ≡ l.found-index;
  told : l.firsts.items ++ findings_after (map (λ r. r.now) (take l.found-index l.records)) (map (λ r. r.now) (drop l.found-index l.records))
      ≡ findings_of (map (λ r. r.now) l.records);
}
