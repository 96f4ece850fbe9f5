use Rattle.sarif_read.proofs.Only.{run_without}
use Rattle.sarif_read.proofs.indexed_run.IndexedRun.without.Goals as goal

pub returns : goal.returns
returns c = run_without c.args.marked.now c.args.self c.in_ok-results.results c.in_ok-results.ensures
