use Rattle.std.proofs.Common.{◌≡◌, ◌++◌, map, drop}
use Rattle.serde_json.specs.View.{view}
use Rattle.sarif_scope.specs.Inside.{artifact_place}
use Rattle.sarif_scope.proofs.artifacts.artifacts_in.Given as goal

abbrev pub invariant-loop-artifact : goal.invariant-loop-artifact
invariant-loop-artifact l =
    l.places ++ map artifact_place (map view (drop l.artifact-index l.artifacts))
    ≡ map artifact_place (map view l.artifacts)
