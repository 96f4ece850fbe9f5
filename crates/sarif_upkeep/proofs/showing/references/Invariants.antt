use Rattle.std.proofs.Common.{◌≡◌, map, take}
use Rattle.sarif_upkeep.proofs.showing.references.Given as goal

abbrev pub invariant-loop-record : goal.invariant-loop-record
invariant-loop-record l = map (λ r. r.now) l.found.items ≡ take l.record-index l.records
