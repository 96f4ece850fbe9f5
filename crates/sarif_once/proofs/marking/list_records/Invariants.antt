use Rattle.std.proofs.Common.{◌≡◌, ◌≤◌, ◌++◌, drop, length, map}
use Rattle.sarif_runs.specs.Judging.{records_in}
use Rattle.sarif_once.proofs.marking.list_records.Given as goal

abbrev pub invariant-loop-outcome : goal.invariant-loop-outcome
invariant-loop-outcome l = record {
  few : length l.records.items ≤ l.outcome-index;
  told : map (λ r. r.now) l.records.items ++ records_in (map (λ o. o.item) (drop l.outcome-index l.outcomes))
      ≡ records_in (map (λ o. o.item) l.outcomes);
}
