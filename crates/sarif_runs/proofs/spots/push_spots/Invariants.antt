use Rattle.std.proofs.Common.{◌≡◌, ◌++◌}
use Rattle.sarif_runs.specs.Internal.Spots.{spots_in}
use Rattle.sarif_runs.proofs.spots.push_spots.Given as goal

abbrev pub invariant-loop-seq : goal.invariant-loop-seq
invariant-loop-seq l = l.spots.items ≡ l.fn.spots.items ++ spots_in l.run l.seq
