use Rattle.std.proofs.Common.{◌≡◌, ◌++◌, map}
use Rattle.std.specs.List.{AllByRecursion}
use Rattle.sarif_runs.specs.Internal.Opened.{placed_of}
use Rattle.sarif_log.specs.Internal.Texts.{own_count, ArePartsOf, IsWholeRun}
use Rattle.sarif_runs.specs.Judging.{run_values}
use Rattle.sarif_prepare.proofs.parts_of_runs.current_parts.Given as goal

abbrev pub invariant-loop-run : goal.invariant-loop-run
invariant-loop-run l =
    (parts : l.fn.runs.items ≡ l.yielded ++ l.run-iterator.rest.items)
    × ArePartsOf own_count l.all.items (run_values (map placed_of l.yielded))
    × AllByRecursion IsWholeRun l.all.items
