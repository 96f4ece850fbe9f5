use Rattle.std.proofs.Common.{◌≡◌, ◌++◌, drop, length}
use Rattle.sarif_log.specs.Internal.Copied.{masked}
use Rattle.sarif_log.proofs.places.mask_states.Given as goal

abbrev pub invariant-loop-number : goal.invariant-loop-number
invariant-loop-number l = record {
  count : length l.all.items ≡ l.number;
  told : l.all.items ++ masked (drop l.number l.marks) (drop l.number l.states) ≡ masked l.marks l.states;
}
