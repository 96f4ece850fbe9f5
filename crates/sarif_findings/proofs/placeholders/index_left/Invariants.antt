use Rattle.std.proofs.Common.{◌≡◌, ◌<◌, ◌≤◌, ◌+◌, length}
use Rattle.sarif_findings.specs.Placeholders.{index_from}
use Rattle.sarif_findings.specs.Internal.Unlinked.{left}
use Rattle.sarif_findings.proofs.placeholders.index_left.Given as goal

abbrev pub decreases-loop-c : goal.decreases-loop-c
decreases-loop-c l = length l.rest.rest.now

abbrev pub invariant-loop-c : goal.invariant-loop-c
invariant-loop-c l = record {
  small : l.number < 1000000000;
  few : l.count ≤ l.number + 1;
  told : index_from l.number l.count (left l.rest) ≡ index_from 0 0 (left l.fn.from);
}
