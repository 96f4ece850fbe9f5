use Rattle.std.proofs.Common.{◌≡◌, ◌++◌, map, drop}
use Rattle.sarif_runs.specs.Internal.Opened.{placed_of}
use Rattle.sarif_prepare.specs.Internal.Apart.{own_counts}
use Rattle.sarif_prepare.proofs.copies.list_counts.Given as goal

abbrev pub invariant-loop-run : goal.invariant-loop-run
invariant-loop-run l =
    l.counts.items ++ own_counts (map placed_of (drop l.run-index l.runs)) ≡ own_counts (map placed_of l.runs)
