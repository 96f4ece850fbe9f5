use Rattle.std.proofs.Common.{◌≡◌, [], length, replicate}
use Rattle.sarif_known.specs.Internal.Groups.{groups_of}
use Rattle.sarif_known.proofs.order.empty_groups.Given as goal

abbrev pub invariant-loop : goal.invariant-loop
invariant-loop l = record {
  empty : groups_of l.groups.items ≡ replicate l.counter [];
  count : length l.groups.items ≡ l.counter;
}
