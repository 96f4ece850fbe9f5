use Rattle.std.proofs.Common.{◌≡◌, ◌++◌, map, drop}
use Rattle.sarif_findings.specs.Internal.CodeParts.{cut_of}
use Rattle.sarif_findings.proofs.code_lines.cut_lines.Given as goal

abbrev pub invariant-loop-line : goal.invariant-loop-line
invariant-loop-line l = l.cut ++ map (cut_of l.common) (drop l.line-index l.lines) ≡ map (cut_of l.common) l.lines
