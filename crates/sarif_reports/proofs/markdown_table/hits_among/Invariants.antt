use Rattle.std.proofs.Common.{◌≡◌, ◌≤◌, ◌+◌, drop, map}
use Rattle.std.specs.List.{count_by}
use Rattle.sarif_counts.specs.Impacts.{is_hit}
use Rattle.sarif_reports.proofs.markdown_table.hits_among.Given as goal

abbrev pub invariant-loop-finding : goal.invariant-loop-finding
invariant-loop-finding l = record {
  counted : l.count + count_by (λ f. is_hit f.impact) (map (λ f. f.now) (drop l.finding-index l.listed)) ≡ count_by (λ f. is_hit f.impact) (map (λ f. f.now) l.listed);
  few : l.count ≤ l.finding-index;
}
