use Rattle.std.proofs.Common.{◌≡◌, ◌++◌, map, drop}
use Rattle.serde_json.specs.View.{view}
use Rattle.sarif_findings.specs.Internal.ArtifactsOf.{path_of_artifact}
use Rattle.sarif_findings.proofs.artifacts.paths_of_artifacts.Given as goal

abbrev pub invariant-loop-artifact : goal.invariant-loop-artifact
invariant-loop-artifact l =
    l.paths.items ++ map path_of_artifact (map view (drop l.artifact-index l.artifacts)) ≡ map path_of_artifact (map view l.artifacts)
