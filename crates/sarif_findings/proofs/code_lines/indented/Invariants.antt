use Rattle.std.proofs.Common.{◌≡◌, ◌≤◌, ◌+◌, ◌*◌, ◌++◌, IsUtf8, length, replicate}
use Rattle.std.specs.Str.Iter.{chars_rest}
use denote.Shadow.{shadow}
use denote.Text.{Utf8}
use Rattle.sarif_findings.specs.Code.{spread_line}
use Rattle.sarif_findings.proofs.code_lines.indented.Given as goal

abbrev pub invariant-loop-c : goal.invariant-loop-c
invariant-loop-c l =
    shadow (Utf8 l.left) × IsUtf8 (chars_rest l.rest) × (l.left ≡ chars_rest l.rest)
    × (replicate l.indent 32 ++ spread_line (chars_rest l.rest) ≡ spread_line l.fn.line)
    × (l.indent + 4 * length (chars_rest l.rest) ≤ 4 * length l.fn.line)
