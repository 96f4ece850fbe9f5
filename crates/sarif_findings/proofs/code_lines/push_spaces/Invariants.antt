use Rattle.std.proofs.Common.{◌≡◌, ◌++◌, ℕ, List, replicate}
use Rattle.sarif_findings.specs.Internal.ShownSoFar.{kept_with}
use Rattle.sarif_findings.proofs.code_lines.push_spaces.Given as goal

abbrev pub invariant-loop-left : goal.invariant-loop-left
invariant-loop-left l =
    (rest : List ℕ) → kept_with l.fn.text (replicate l.fn.count 32 ++ rest) ≡ kept_with l.text (replicate l.left 32 ++ rest)

abbrev pub decreases-loop-left : goal.decreases-loop-left
decreases-loop-left l = l.left
