use Rattle.std.proofs.Common.{◌≡◌, ◌==◌, length, drop, map}
use Rattle.sarif_known.specs.KnownRun.{bases_alone}
use Rattle.sarif_known.proofs.known_run.none_alone.Given as goal

abbrev pub invariant-loop-found : goal.invariant-loop-found
invariant-loop-found l =
    (length (bases_alone (map (λ r. r.now) (drop l.found-index l.records))) == 0) ≡ (length (bases_alone (map (λ r. r.now) l.records)) == 0)
