use Rattle.std.proofs.Common.{◌≡◌, map, drop}
use Rattle.serde_json.specs.View.{view}
use Rattle.sarif_model.specs.Members.{read_each}
use Rattle.sarif_runs.specs.Reading.{before}
use Rattle.sarif_runs.specs.Overrides.{override_of}
use Rattle.sarif_runs.proofs.open.read_overrides.Given as goal

abbrev pub invariant-loop-value : goal.invariant-loop-value
invariant-loop-value l =
    before l.overrides.items (read_each (override_of l.components) (map view (drop l.value-index l.values)))
    ≡ read_each (override_of l.components) (map view l.values)
