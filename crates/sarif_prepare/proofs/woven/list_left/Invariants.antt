use Rattle.std.proofs.Common.{◌≡◌, ◌++◌, length, drop}
use Rattle.sarif_prepare.specs.Internal.Apart.{left_counts, total}
use Rattle.sarif_prepare.proofs.woven.list_left.Given as goal

abbrev pub invariant-loop-count : goal.invariant-loop-count
invariant-loop-count l = record {
  counted : total (drop l.count-index l.counts) ≡ length l.taken;
  left : l.left.items ++ left_counts (drop l.count-index l.counts) l.taken ≡ left_counts l.counts l.fn.taken;
}
