use Rattle.std.proofs.Common.{rules}
use Rattle.serde_json.specs.View.{view}
use Rattle.sarif_findings.proofs.ArtifactsMore.{path_found}
use Rattle.sarif_findings.proofs.named_run.NamedRun.artifact_path.Goals as goal

pub returns : goal.returns
returns c = path_found (view c.args.self.now) c.args.index c.self.inside.artifacts.items _ (search rules) (search rules)
