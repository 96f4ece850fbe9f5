use Rattle.std.proofs.Common.{◌≡◌, map}
use Rattle.serde_json.specs.View.{view}
use Rattle.sarif_read.specs.Internal.Indexed.{run_of}
use Rattle.sarif_read.proofs.whole.fill_each.Given as goal

abbrev pub invariant-loop-run : goal.invariant-loop-run
invariant-loop-run l = map view l.filled.items ≡ map run_of l.yielded
