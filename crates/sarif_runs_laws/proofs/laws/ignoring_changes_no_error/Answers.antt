use Rattle.sarif_runs_laws.proofs.Runs.{errors_same}
use Rattle.sarif_runs_laws.proofs.laws.ignoring_changes_no_error.Goals as goal

pub returns : goal.returns
returns c = errors_same
