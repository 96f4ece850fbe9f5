use Rattle.std.proofs.Common.{◌≡◌, drop}
use Rattle.std.specs.List.{list_any}
use Rattle.sarif_page.specs.HtmlRules.{is_alike}
use Rattle.sarif_page.specs.Internal.ByFile.{findings_in}
use Rattle.sarif_page.proofs.html_index.has_alike.Given as goal

abbrev pub invariant-loop-row : goal.invariant-loop-row
invariant-loop-row l =
    list_any (is_alike l.finding) (findings_in (drop l.row-index l.rows)) ≡ list_any (is_alike l.finding) (findings_in l.rows)
