use Rattle.std.proofs.Common.{◌≡◌, ◌++◌, ℕ, List, [], map, take, drop, bytes_eq}
use Rattle.std.specs.List.{count_by}
use Rattle.sarif_reports.specs.Internal.GitlabObjects.{object_of, objects_after}
use Rattle.sarif_reports.specs.GitlabParts.{identity_of, counted}
use Rattle.sarif_reports.proofs.ranking.rank_all.Given as goal

abbrev pub invariant-loop-number : goal.invariant-loop-number
invariant-loop-number l = record {
  counts : (other : List ℕ) → counted l.counts other ≡ count_by (λ f. bytes_eq other (identity_of f)) (take l.number l.findings);
  objects : map object_of l.ranked.items ++ objects_after (take l.number l.findings) (drop l.number l.findings) ≡ objects_after [] l.findings;
}
