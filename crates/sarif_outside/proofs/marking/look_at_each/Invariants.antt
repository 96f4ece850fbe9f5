use Rattle.std.proofs.Common.{◌≡◌, ◌++◌, map, drop}
use Rattle.sarif_runs.specs.Internal.Opened.{placed_of}
use Rattle.sarif_outside.specs.Internal.Asked.{looked_as, scoped}
use Rattle.sarif_outside.proofs.marking.look_at_each.Given as goal

abbrev pub invariant-loop-opened : goal.invariant-loop-opened
invariant-loop-opened l =
    map looked_as l.made.items ++ map (λ run. (scoped l.change, placed_of run)) (drop l.opened-index l.runs)
    ≡ map (λ run. (scoped l.change, placed_of run)) l.runs
