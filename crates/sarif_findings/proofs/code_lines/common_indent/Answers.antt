use Rattle.std.proofs.Common.{◌+◌, ◌∙◌, ap, drop, map, filter}
use Rattle.sarif_findings.specs.Code.{indent_of, is_written}
use Rattle.sarif_findings.specs.Internal.CodeParts.{least_with, line_of}
use Rattle.sarif_findings.proofs.CodeLines.{least_skip, least_step, lines_left}
use Rattle.sarif_findings.proofs.code_lines.common_indent.Goals as goal
use Rattle.sarif_findings.proofs.code_lines.common_indent.Goals.{then-not-line, else-not-line}

pub loop-line-preserved : goal.loop-line-preserved
loop-line-preserved c =
    let lines = c.args.lines.now in
    let i = c.loop-line.line-index in
    let line = c.line-item.result in
    let rest = map line_of (drop (i + 1) lines) in
    let left = lines_left lines i line c.loop-line-test.true c.line-item.is in
    let so_far = ap (λ ls. least_with c.loop-line.least (map indent_of (filter is_written ls))) left ∙ c.loop-line.invariant in
    elim c.if-not-line.branch [
      | then-not-line w ↦ ap (λ least. least_with least (map indent_of (filter is_written rest))) (w.least-is ∙ w.least_of-least.ensures)
          ∙ least_step c.loop-line.least line rest w.if-not-line.true ∙ so_far
      | else-not-line w ↦ ap (λ least. least_with least (map indent_of (filter is_written rest))) w.least-is
          ∙ least_skip c.loop-line.least line rest w.if-not-line.false ∙ so_far
    ]
