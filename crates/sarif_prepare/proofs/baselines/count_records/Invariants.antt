use Rattle.std.proofs.Common.{◌≡◌, ◌≤◌, ◌+◌, map, length, drop}
use Rattle.sarif_runs.specs.Judging.{records_in}
use Rattle.sarif_prepare.proofs.baselines.count_records.Given as goal

abbrev pub invariant-loop-outcome : goal.invariant-loop-outcome
invariant-loop-outcome l = record {
  counted : l.count + length (records_in (map (λ o. o.item) (drop l.outcome-index l.outcomes))) ≡ length (records_in (map (λ o. o.item) l.outcomes));
  few : l.count ≤ l.outcome-index;
}
