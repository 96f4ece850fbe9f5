use Rattle.std.proofs.Common.{◌≡◌, ◌++◌, drop}
use Rattle.sarif_page.specs.HtmlRows.{grouped_rows}
use Rattle.sarif_page.specs.Internal.ByFile.{findings_in}
use Rattle.sarif_page.specs.Internal.Groups.{groups_in}
use Rattle.sarif_page.proofs.html_lists.rows_of_groups.Given as goal

abbrev pub invariant-loop-group : goal.invariant-loop-group
invariant-loop-group l =
    findings_in l.rows.items ++ grouped_rows (groups_in (drop l.group-index l.groups)) ≡ grouped_rows (groups_in l.groups)
