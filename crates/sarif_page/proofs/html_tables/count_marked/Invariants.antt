use Rattle.std.proofs.Common.{◌≡◌, ◌≤◌, ◌+◌, drop}
use Rattle.std.specs.List.{count_by}
use Rattle.sarif_shown.specs.Stopping.{stops}
use Rattle.sarif_shown.specs.declared.stopping.Stopping.TheVariants.{MarkedHit}
use Rattle.sarif_page.proofs.html_tables.count_marked.Given as goal

abbrev pub invariant-loop-finding : goal.invariant-loop-finding
invariant-loop-finding l = record {
  counted : l.marked + count_by (λ f. stops MarkedHit f.impact) (drop l.finding-index l.findings) ≡ count_by (λ f. stops MarkedHit f.impact) l.findings;
  few : l.marked ≤ l.finding-index;
}
