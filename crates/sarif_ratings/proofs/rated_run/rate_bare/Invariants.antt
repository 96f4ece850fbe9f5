use Rattle.std.proofs.Common.{◌≡◌, ◌++◌, map, drop}
use Rattle.serde_json.specs.View.{view}
use Rattle.sarif_read.specs.Internal.Bare.{bare}
use Rattle.sarif_runs.specs.Internal.Opened.{placed_of}
use Rattle.sarif_ratings.proofs.rated_run.rate_bare.Given as goal

abbrev pub invariant-loop-opened : goal.invariant-loop-opened
invariant-loop-opened l =
    map view l.rated.items ++ map (λ run. bare (placed_of run).run) (drop l.opened-index l.runs)
    ≡ map (λ run. bare (placed_of run).run) l.runs
