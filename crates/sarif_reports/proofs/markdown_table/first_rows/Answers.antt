use Rattle.std.proofs.Common.{sym, arith}
use Rattle.std.proofs.lemmas.List.{take_all, length-take-le}
use Rattle.sarif_reports.proofs.markdown_table.first_rows.Goals as goal
use Rattle.sarif_reports.specs.MarkdownReport.{most_rows}

pub slice_bounds-result-end : goal.slice_bounds-result-end
slice_bounds-result-end c = sym (length-take-le most_rows c.args.listed.now (omega arith))

pub returns-else-listed-gt-MOST_ROWS : goal.returns-else-listed-gt-MOST_ROWS
returns-else-listed-gt-MOST_ROWS c = sym (take_all most_rows c.args.listed.now (omega arith))
