use Rattle.std.proofs.Common.{◌≡◌, ◌+◌, drop}
use Rattle.std.specs.List.{prefix_len}
use Rattle.sarif_findings.proofs.code_lines.blank_lines_first.Given as goal

abbrev pub invariant-loop-index : goal.invariant-loop-index
invariant-loop-index l =
    l.index + prefix_len (λ line. line.blank) (drop l.index l.lines) ≡ prefix_len (λ line. line.blank) l.lines
