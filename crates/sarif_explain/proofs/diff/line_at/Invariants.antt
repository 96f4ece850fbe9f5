use Rattle.std.proofs.Common.{◌≡◌, ◌-◌}
use Rattle.sarif_explain.specs.Internal.Diff.{past_lines}
use Rattle.sarif_explain.proofs.diff.line_at.Given as goal

abbrev pub invariant-loop-left : goal.invariant-loop-left
invariant-loop-left l = past_lines (l.left - 1) l.rest ≡ past_lines (l.number - 1) l.bytes

abbrev pub decreases-loop-left : goal.decreases-loop-left
decreases-loop-left l = l.left
