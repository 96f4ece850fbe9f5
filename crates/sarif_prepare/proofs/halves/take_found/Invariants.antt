use Rattle.std.proofs.Common.{◌≡◌, ◌++◌, map}
use Rattle.sarif_runs.specs.Judging.{records_in}
use Rattle.sarif_prepare.specs.Internal.Halves.{drafts_in}
use Rattle.sarif_prepare.proofs.halves.take_found.Given as goal

abbrev pub invariant-loop-outcome : goal.invariant-loop-outcome
invariant-loop-outcome l = record {
  parts : l.fn.outcomes.items ≡ l.yielded ++ l.outcome-iterator.rest.items;
  records : l.records.items ++ records_in (map (λ o. o.item) l.outcome-iterator.rest.items) ≡ records_in (map (λ o. o.item) l.fn.outcomes.items);
  drafts : l.drafts.items ++ drafts_in l.outcome-iterator.rest.items ≡ drafts_in l.fn.outcomes.items;
}
