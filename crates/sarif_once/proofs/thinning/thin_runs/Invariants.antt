use Rattle.std.proofs.Common.{◌≡◌, ◌++◌, length, map}
use Rattle.sarif_model.specs.Run.{results_total}
use Rattle.sarif_runs.specs.Judging.{run_values}
use Rattle.sarif_runs.specs.Internal.Opened.{placed_of}
use Rattle.sarif_runs.specs.Unmarked.{runs_without}
use Rattle.sarif_once.proofs.thinning.thin_runs.Given as goal

abbrev pub invariant-loop-run : goal.invariant-loop-run
invariant-loop-run l = record {
  parts : l.fn.runs.items ≡ l.yielded ++ l.run-iterator.rest.items;
  counted : length l.marks ≡ results_total (run_values (map placed_of l.run-iterator.rest.items));
  told : map placed_of l.thin.items ++ runs_without l.marks (map placed_of l.run-iterator.rest.items)
      ≡ runs_without l.fn.marks (map placed_of l.fn.runs.items);
}
