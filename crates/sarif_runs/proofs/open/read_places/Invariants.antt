use Rattle.std.proofs.Common.{◌≡◌, map, drop}
use Rattle.serde_json.specs.View.{view}
use Rattle.sarif_model.specs.Members.{read_each}
use Rattle.sarif_runs.specs.Reading.{before}
use Rattle.sarif_runs.specs.Place.{artifact_of}
use Rattle.sarif_runs.proofs.open.read_places.Given as goal

abbrev pub invariant-loop-artifact : goal.invariant-loop-artifact
invariant-loop-artifact l =
    before l.places (read_each artifact_of (map view (drop l.artifact-index l.artifacts))) ≡ read_each artifact_of (map view l.artifacts)
