use Rattle.std.proofs.Common.{◌≡◌, ◌+◌, ◌++◌, drop, length, map}
use Rattle.sarif_runs.specs.Judging.{records_in}
use Rattle.sarif_once.specs.Once.{marks_in}
use Rattle.sarif_once.proofs.marking.list_marks.Given as goal

abbrev pub invariant-loop-outcome : goal.invariant-loop-outcome
invariant-loop-outcome l = record {
  counted : l.number + length (records_in (map (λ o. o.item) (drop l.outcome-index l.outcomes))) ≡ length l.marks;
  count : length l.all.items ≡ l.outcome-index;
  told : l.all.items ++ marks_in (map (λ o. o.item) (drop l.outcome-index l.outcomes)) (drop l.number l.marks)
      ≡ marks_in (map (λ o. o.item) l.outcomes) l.marks;
}
