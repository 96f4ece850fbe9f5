use Rattle.std.proofs.Common.{◌≡◌, ◌+◌, ◌++◌, drop, length}
use Rattle.sarif_read.specs.Unmarked.{unmarked}
use Rattle.sarif_once.specs.Once.{marked}
use Rattle.sarif_once.proofs.thinning.split_outcomes.Given as goal

abbrev pub invariant-loop-outcome : goal.invariant-loop-outcome
invariant-loop-outcome l = record {
  parts : l.fn.outcomes.items ≡ l.yielded ++ l.outcome-iterator.rest.items;
  counted : l.number + length l.outcome-iterator.rest.items ≡ length l.marks;
  rest : l.split.rest.items ++ unmarked (drop l.number l.marks) l.outcome-iterator.rest.items ≡ unmarked l.marks l.fn.outcomes.items;
  marked : l.split.marked.items ++ marked (drop l.number l.marks) l.outcome-iterator.rest.items ≡ marked l.marks l.fn.outcomes.items;
}
