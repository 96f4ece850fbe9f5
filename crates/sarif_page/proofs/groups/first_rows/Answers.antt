use Rattle.std.proofs.Common.{sym, arith}
use Rattle.std.proofs.lemmas.List.{take_all, length-take-le}
use Rattle.sarif_page.specs.HtmlRows.{most_grouped}
use Rattle.sarif_page.proofs.groups.first_rows.Goals as goal

pub slice_bounds-result-end : goal.slice_bounds-result-end
slice_bounds-result-end c = sym (length-take-le most_grouped c.args.rows.now (omega arith))

pub returns-else-rows-gt-MOST_GROUPED : goal.returns-else-rows-gt-MOST_GROUPED
returns-else-rows-gt-MOST_GROUPED c = sym (take_all most_grouped c.args.rows.now (omega arith))
