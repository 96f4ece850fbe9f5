use Rattle.std.proofs.Common.{◌≡◌, drop}
use Rattle.sarif_explain.specs.Internal.Diff.{past_line}
use Rattle.sarif_explain.proofs.diff.past_line.Given as goal

abbrev pub invariant-loop-i : goal.invariant-loop-i
invariant-loop-i l = past_line l.bytes ≡ past_line (drop l.i l.bytes)
