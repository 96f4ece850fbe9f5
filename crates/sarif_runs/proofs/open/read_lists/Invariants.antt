use Rattle.std.proofs.Common.{◌≡◌, map, drop}
use Rattle.serde_json.specs.View.{view}
use Rattle.sarif_model.specs.Members.{read_each}
use Rattle.sarif_runs.specs.Reading.{before}
use Rattle.sarif_runs.specs.Overrides.{override_of}
use Rattle.sarif_runs.proofs.open.read_lists.Given as goal

abbrev pub invariant-loop-list : goal.invariant-loop-list
invariant-loop-list l =
    before l.invocations (read_each (read_each (override_of l.components)) (map (λ s. map view s.now) (drop l.list-index l.lists)))
    ≡ read_each (read_each (override_of l.components)) (map (λ s. map view s.now) l.lists)
