use Rattle.std.proofs.Common.{◌≡◌, ◌++◌, map, drop}
use Rattle.sarif_read.specs.Unmarked.{unmarked}
use Rattle.sarif_deciding.proofs.absent.left_records.Given as goal

abbrev pub invariant-loop-number : goal.invariant-loop-number
invariant-loop-number l =
    map (λ r. r.now) l.list.items ++ unmarked (drop l.number l.taken) (drop l.number l.records) ≡ unmarked l.taken l.records
