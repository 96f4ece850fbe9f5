use Rattle.std.proofs.Common.{◌≡◌, drop, map, filter}
use Rattle.sarif_findings.specs.Code.{common_indent, indent_of, is_written}
use Rattle.sarif_findings.specs.Internal.CodeParts.{least_with, line_of}
use Rattle.sarif_findings.proofs.code_lines.common_indent.Given as goal

abbrev pub invariant-loop-line : goal.invariant-loop-line
invariant-loop-line l =
    least_with l.least (map indent_of (filter is_written (map line_of (drop l.line-index l.lines))))
    ≡ common_indent (map line_of l.lines)
