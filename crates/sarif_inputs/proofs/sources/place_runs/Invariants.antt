use Rattle.std.proofs.Common.{◌≡◌, ◌++◌, map, length}
use Rattle.sarif_read.specs.Internal.Indexed.{run_of}
use Rattle.sarif_inputs.specs.Inputs.{placed_from}
use Rattle.sarif_inputs.specs.Internal.ReadRun.{placed_read}
use Rattle.sarif_inputs.proofs.sources.place_runs.Given as goal

abbrev pub invariant-loop-run : goal.invariant-loop-run
invariant-loop-run l = record {
  parts : l.fn.runs.items ≡ l.yielded ++ l.run-iterator.rest.items;
  number : l.number ≡ length l.yielded;
  placed : map placed_read l.all.items ≡ map placed_read l.fn.all.items ++ placed_from l.checks l.source 0 (map run_of l.yielded);
}
