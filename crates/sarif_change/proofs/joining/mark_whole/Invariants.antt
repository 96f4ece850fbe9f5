use Rattle.std.proofs.Common.{◌≡◌, ◌+◌, ◌++◌, length, drop}
use Rattle.sarif_change.specs.Internal.NamesSeen.{with_whole}
use Rattle.sarif_change.proofs.joining.mark_whole.Given as goal

abbrev pub invariant-loop-section : goal.invariant-loop-section
invariant-loop-section l = record {
  counted : l.number + length l.section-iterator.rest.items ≡ length l.whole;
  told : l.marked ++ with_whole l.section-iterator.rest.items (drop l.number l.whole) ≡ with_whole l.fn.sections l.whole;
}
