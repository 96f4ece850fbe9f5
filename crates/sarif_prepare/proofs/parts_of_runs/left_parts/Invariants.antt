use Rattle.std.proofs.Common.{◌≡◌, ◌++◌, List, drop, length, map}
use Rattle.std.specs.List.{AllByRecursion}
use Rattle.sarif_runs.specs.Internal.Opened.{placed_of}
use Rattle.sarif_log.specs.declared.run_parts.RunParts.{RunParts}
use Rattle.sarif_log.specs.Internal.Texts.{present_results, IsWholeRun}
use Rattle.sarif_prepare.specs.Internal.LeftParts.{present_counts, AreLeftParts}
use Rattle.sarif_runs.specs.Judging.{run_values}
use Rattle.sarif_prepare.proofs.parts_of_runs.left_parts.Given as goal

abbrev pub invariant-loop-run : goal.invariant-loop-run
invariant-loop-run l = record {
  counts : drop l.number l.counts ≡ present_counts (map placed_of l.run-iterator.rest.items);
  taken : length l.taken ≡ length (present_results (run_values (map placed_of l.run-iterator.rest.items)));
  whole : AllByRecursion IsWholeRun l.all.items;
  parts : (more : List RunParts) → AreLeftParts more l.taken (run_values (map placed_of l.run-iterator.rest.items))
      → AreLeftParts (l.all.items ++ more) l.fn.taken (run_values (map placed_of l.fn.runs.items));
}
