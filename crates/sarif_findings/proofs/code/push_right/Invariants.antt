use Rattle.std.proofs.Common.{◌≡◌, ◌-◌, ◌++◌, length, replicate, string_bytes}
use Rattle.sarif_findings.proofs.code.push_right.Given as goal

abbrev pub invariant-loop-left : goal.invariant-loop-left
invariant-loop-left l =
    string_bytes l.text ++ (replicate l.left 32 ++ l.digits)
    ≡ string_bytes l.fn.text ++ (replicate (l.width - length l.digits) 32 ++ l.digits)

abbrev pub decreases-loop-left : goal.decreases-loop-left
decreases-loop-left l = l.left
