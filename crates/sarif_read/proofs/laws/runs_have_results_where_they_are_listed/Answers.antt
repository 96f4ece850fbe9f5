use Rattle.sarif_read.proofs.ReadResults.{results_there}
use Rattle.sarif_read.proofs.laws.runs_have_results_where_they_are_listed.Goals as goal

pub returns : goal.returns
returns c = results_there
