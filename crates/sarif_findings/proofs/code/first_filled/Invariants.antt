use Rattle.std.proofs.Common.{◌≡◌, find, drop}
use Rattle.sarif_findings.specs.CodeRows.{is_filled}
use Rattle.sarif_findings.proofs.code.first_filled.Given as goal

abbrev pub invariant-loop-line : goal.invariant-loop-line
invariant-loop-line l = find is_filled (drop l.line-index l.lines) ≡ find is_filled l.lines
