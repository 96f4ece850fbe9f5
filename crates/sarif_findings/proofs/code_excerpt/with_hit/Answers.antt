use Rattle.std.proofs.Common.{◌<◌, ◌+◌, ◌-◌, Some, length, refl, arith}
use Rattle.sarif_findings.proofs.CodeExcerpts.{around_there}
use Rattle.sarif_findings.proofs.code_excerpt.with_hit.Goals as goal

pub returns : goal.returns
returns c =
    let many : c.args.line - c.args.first - c.saturating_sub-from.result < length c.in_ok-lines.lines.items
    = omega (arith, c.if-len-hit.false, c.len.ensures, c.in_ok-lines.lines.ok.0) in
    around_there c.args.context.now c.args.first c.args.line c.saturating_sub-from.result
    (record {
      lines = c.in_ok-lines.lines;
      first_number = Some (c.args.first + c.saturating_sub-from.result);
      hit_line = Some (c.args.line - c.args.first - c.saturating_sub-from.result);
    })
    c.if-line-first.false c.saturating_sub-from.ensures c.in_ok-lines.ensures refl refl many
