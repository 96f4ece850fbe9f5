use Rattle.std.proofs.Common.{◌≡◌, map, drop}
use Rattle.std.specs.List.{flat_map}
use Rattle.sarif_runs.specs.Judging.{faults_of_runs, items_of}
use Rattle.sarif_runs.specs.Internal.Opened.{placed_of}
use Rattle.sarif_judge.proofs.first_fault.fault_of_runs.Given as goal

abbrev pub invariant-loop-run : goal.invariant-loop-run
invariant-loop-run l =
    (judged : map (λ o. o.item) l.outcomes ≡ flat_map items_of (map placed_of (drop l.run-index l.runs)))
    × (faults_of_runs (map placed_of l.runs) ≡ faults_of_runs (map placed_of (drop l.run-index l.runs)))
