use Rattle.std.proofs.Common.{◌≡◌, ◌++◌, map, drop}
use Rattle.sarif_runs.specs.Judging.{records_in}
use Rattle.sarif_prepare.proofs.limiting.list_records.Given as goal

abbrev pub invariant-loop-outcome : goal.invariant-loop-outcome
invariant-loop-outcome l =
    map (λ r. r.now) l.records.items ++ records_in (map (λ o. o.item) (drop l.outcome-index l.outcomes))
    ≡ records_in (map (λ o. o.item) l.outcomes)
