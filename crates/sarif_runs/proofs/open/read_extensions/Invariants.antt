use Rattle.std.proofs.Common.{◌≡◌, map, drop}
use Rattle.serde_json.specs.View.{view}
use Rattle.sarif_model.specs.Members.{read_each}
use Rattle.sarif_runs.specs.Reading.{before}
use Rattle.sarif_runs.specs.Rules.{rules_of}
use Rattle.sarif_runs.proofs.open.read_extensions.Given as goal

abbrev pub invariant-loop-extension : goal.invariant-loop-extension
invariant-loop-extension l =
    before l.components (read_each rules_of (map view (drop l.extension-index l.extensions)))
    ≡ before l.fn.components (read_each rules_of (map view l.extensions))
