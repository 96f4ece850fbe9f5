use Rattle.std.proofs.Common.{◌≡◌, ◌++◌, map, drop}
use Rattle.sarif_runs.specs.Internal.Opened.{placed_of}
use Rattle.sarif_prepare.specs.Internal.Telling.{placed_told}
use Rattle.sarif_prepare.proofs.telling.name_runs.Given as goal

abbrev pub invariant-loop-opened : goal.invariant-loop-opened
invariant-loop-opened l = map placed_told l.made.items ++ map placed_of (drop l.opened-index l.runs) ≡ map placed_of l.runs
