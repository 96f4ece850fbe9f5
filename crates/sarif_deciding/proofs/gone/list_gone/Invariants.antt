use Rattle.std.proofs.Common.{◌≡◌, map, take}
use Rattle.sarif_deciding.specs.Internal.Gone.{gone_by}
use Rattle.sarif_deciding.proofs.gone.list_gone.Given as goal

abbrev pub invariant-loop-record : goal.invariant-loop-record
invariant-loop-record l = l.gone.items ≡ map (gone_by l.test) (map (λ r. r.now) (take l.record-index l.records))
