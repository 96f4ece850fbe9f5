use Rattle.std.proofs.Common.{◌≡◌, ◌≤◌, ◌+◌, length, take}
use Rattle.std.specs.List.{suffix_len}
use Rattle.sarif_findings.proofs.code_lines.before_blank_lines.Given as goal

abbrev pub invariant-loop-end : goal.invariant-loop-end
invariant-loop-end l =
    (l.end ≤ length l.lines)
    × (suffix_len (λ line. line.blank) l.lines + l.end ≡ length l.lines + suffix_len (λ line. line.blank) (take l.end l.lines))

abbrev pub decreases-loop-end : goal.decreases-loop-end
decreases-loop-end l = l.end
