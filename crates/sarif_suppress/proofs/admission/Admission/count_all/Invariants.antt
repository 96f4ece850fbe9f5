use Rattle.std.proofs.Common.{◌≡◌, ◌++◌, map, take, drop}
use Rattle.sarif_suppress.specs.Internal.Admission.{IsAfter}
use Rattle.sarif_suppress.specs.Limited.{all_admitted, all_admitted_after}
use Rattle.sarif_suppress.proofs.admission.Admission.count_all.Given as goal

abbrev pub invariant-loop-found : goal.invariant-loop-found
invariant-loop-found g l =
    IsAfter l.file (take l.found-index (map (λ r. r.now) l.records)) l.self
    × (l.lists.items
    ++ all_admitted_after l.file (take l.found-index (map (λ r. r.now) l.records)) (drop l.found-index (map (λ r. r.now) l.records))
    ≡ l.fn.lists.items ++ all_admitted l.file (map (λ r. r.now) l.records))
