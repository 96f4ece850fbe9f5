use Rattle.sarif_read.proofs.External.{same_runs}
use Rattle.sarif_read.proofs.laws.allowing_external_files_changes_nothing_else.Goals as goal

pub returns : goal.returns
returns c = same_runs
