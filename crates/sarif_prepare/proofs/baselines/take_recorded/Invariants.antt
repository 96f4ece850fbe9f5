use Rattle.std.proofs.Common.{◌≡◌, ◌+◌, ◌++◌, map, length, drop}
use Rattle.sarif_runs.specs.Judging.{records_in}
use Rattle.sarif_prepare.specs.Internal.Baselines.{spots_with_record}
use Rattle.sarif_prepare.proofs.baselines.take_recorded.Given as goal

abbrev pub invariant-loop-outcome : goal.invariant-loop-outcome
invariant-loop-outcome l = record {
  parts : l.fn.outcomes.items ≡ l.yielded ++ l.outcome-iterator.rest.items;
  counted : l.number + length l.outcome-iterator.rest.items ≡ length l.spots;
  records : l.found.records.items ++ records_in (map (λ o. o.item) l.outcome-iterator.rest.items) ≡ records_in (map (λ o. o.item) l.fn.outcomes.items);
  spots : l.found.spots.items ++ spots_with_record (map (λ o. o.item) l.outcome-iterator.rest.items) (drop l.number l.spots)
      ≡ spots_with_record (map (λ o. o.item) l.fn.outcomes.items) l.spots;
}
