use Rattle.sarif_laws.proofs.Pruned.{law_of_pruning}
use Rattle.sarif_laws.proofs.laws.pruning_changes_no_run.Goals as goal

pub returns : goal.returns
returns c = law_of_pruning
