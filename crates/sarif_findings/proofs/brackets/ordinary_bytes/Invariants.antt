use Rattle.std.proofs.Common.{◌≡◌, ◌≤◌, ◌-◌, true, length, take}
use Rattle.std.specs.List.{list_all}
use Rattle.sarif_findings.specs.Internal.Brackets.{is_ordinary}
use Rattle.sarif_findings.proofs.brackets.ordinary_bytes.Given as goal

abbrev pub decreases-loop-end : goal.decreases-loop-end
decreases-loop-end l = length l.fn.bytes - l.end

abbrev pub invariant-loop-end : goal.invariant-loop-end
invariant-loop-end l = record {
  within : l.end ≤ length l.fn.bytes;
  ordinary : list_all is_ordinary (take l.end l.fn.bytes) ≡ true;
}
