use Rattle.std.proofs.Common.{◌≡◌, map, drop}
use Rattle.serde_json.specs.View.{view}
use Rattle.sarif_runs.specs.Reading.{before}
use Rattle.sarif_runs.specs.Overrides.{override_lists}
use Rattle.sarif_runs.proofs.open.override_lists.Given as goal

abbrev pub invariant-loop-invocation : goal.invariant-loop-invocation
invariant-loop-invocation l =
    before (map (λ s. map view s.now) l.lists.items) (override_lists (map view (drop l.invocation-index l.invocations)))
    ≡ override_lists (map view l.invocations)
