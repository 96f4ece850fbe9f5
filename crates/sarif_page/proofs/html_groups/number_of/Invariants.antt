use Rattle.std.proofs.Common.{◌≡◌, ◌≤◌, ◌+◌, drop}
use Rattle.sarif_page.specs.HtmlGroups.{number_of}
use Rattle.sarif_page.specs.Internal.ByFile.{findings_in}
use Rattle.sarif_page.proofs.html_groups.number_of.Given as goal

abbrev pub invariant-loop-row : goal.invariant-loop-row
invariant-loop-row l = record {
  counted : l.count + number_of l.level (findings_in (drop l.row-index l.rows)) ≡ number_of l.level (findings_in l.rows);
  few : l.count ≤ l.row-index;
}
