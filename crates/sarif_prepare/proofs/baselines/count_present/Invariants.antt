use Rattle.std.proofs.Common.{◌≡◌, ◌++◌, true, [], map, drop}
use Rattle.std.specs.List.{AllByRecursion, flat_map}
use Rattle.sarif_runs.specs.Judging.{faults_of_runs, items_of, skips}
use Rattle.sarif_runs.specs.Internal.Opened.{placed_of}
use Rattle.sarif_prepare.specs.Internal.LeftParts.{present_counts}
use Rattle.sarif_prepare.proofs.baselines.count_present.Given as goal

abbrev pub invariant-loop-run : goal.invariant-loop-run
invariant-loop-run l = record {
  counted : l.counts.items ++ present_counts (map placed_of (drop l.run-index l.runs)) ≡ present_counts (map placed_of l.runs);
  judged : map (λ o. o.item) l.outcomes ≡ flat_map items_of (map placed_of (drop l.run-index l.runs));
  baselines : AllByRecursion (λ p. skips p.source ≡ true) (map placed_of (drop l.run-index l.runs));
  faultless : faults_of_runs (map placed_of (drop l.run-index l.runs)) ≡ [];
}
