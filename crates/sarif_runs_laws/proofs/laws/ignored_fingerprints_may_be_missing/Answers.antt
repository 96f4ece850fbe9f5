use Rattle.sarif_runs_laws.proofs.Runs.{read_without}
use Rattle.sarif_runs_laws.proofs.laws.ignored_fingerprints_may_be_missing.Goals as goal

pub returns : goal.returns
returns c = read_without
