use Rattle.std.proofs.Common.{sym, arith}
use Rattle.std.proofs.lemmas.List.{drop_all, take_rest}
use Rattle.sarif_page.specs.HtmlRows.{most_grouped}
use Rattle.sarif_page.proofs.groups.later_rows.Goals as goal

pub returns-then-rows-gt-MOST_GROUPED : goal.returns-then-rows-gt-MOST_GROUPED
returns-then-rows-gt-MOST_GROUPED c = take_rest c.args.rows.now most_grouped

pub returns-else-rows-gt-MOST_GROUPED : goal.returns-else-rows-gt-MOST_GROUPED
returns-else-rows-gt-MOST_GROUPED c = sym (drop_all most_grouped c.args.rows.now (omega arith))
