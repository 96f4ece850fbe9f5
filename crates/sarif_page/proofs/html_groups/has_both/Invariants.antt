use Rattle.std.proofs.Common.{◌≡◌, drop}
use Rattle.sarif_page.specs.HtmlGroups.{has_both}
use Rattle.sarif_page.specs.Internal.ByFile.{findings_in}
use Rattle.sarif_page.proofs.html_groups.has_both.Given as goal

abbrev pub invariant-loop-row : goal.invariant-loop-row
invariant-loop-row l =
    has_both l.level l.state (findings_in (drop l.row-index l.rows)) ≡ has_both l.level l.state (findings_in l.rows)
