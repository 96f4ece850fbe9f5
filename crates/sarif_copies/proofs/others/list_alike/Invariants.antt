use Rattle.std.proofs.Common.{◌≡◌, ◌++◌, drop, map}
use Rattle.sarif_copies.specs.Copies.{has_alike}
use Rattle.sarif_copies.proofs.others.list_alike.Given as goal

abbrev pub invariant-loop-found : goal.invariant-loop-found
invariant-loop-found g l =
    l.alike.items ++ map (has_alike (map (λ r. r.now) l.others)) (drop l.found-index l.records)
    ≡ map (has_alike (map (λ r. r.now) l.others)) l.records
