use Rattle.std.proofs.Common.{◌≡◌, ◌++◌, map, drop}
use Rattle.sarif_findings.specs.Code.{spread_line}
use Rattle.sarif_findings.specs.Internal.CodeParts.{line_of}
use Rattle.sarif_findings.proofs.code_lines.indented_lines.Given as goal

abbrev pub invariant-loop-line : goal.invariant-loop-line
invariant-loop-line l =
    map line_of l.made.items ++ map spread_line (map (λ line. line.now) (drop l.line-index l.lines))
    ≡ map spread_line (map (λ line. line.now) l.lines)
