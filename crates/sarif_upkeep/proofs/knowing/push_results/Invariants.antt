use Rattle.std.proofs.Common.{◌≡◌, ◌++◌, drop, map}
use Rattle.sarif_upkeep.proofs.knowing.push_results.Given as goal

abbrev pub invariant-loop-found : goal.invariant-loop-found
invariant-loop-found l =
    map (λ r. r.now) l.list.items ++ map (λ r. r.now) (drop l.found-index l.records)
    ≡ map (λ r. r.now) l.fn.list.items ++ map (λ r. r.now) l.records
