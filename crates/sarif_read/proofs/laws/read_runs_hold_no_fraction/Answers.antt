use Rattle.sarif_read.proofs.WholeRuns.{read_whole}
use Rattle.sarif_read.proofs.laws.read_runs_hold_no_fraction.Goals as goal

pub returns : goal.returns
returns c = read_whole
