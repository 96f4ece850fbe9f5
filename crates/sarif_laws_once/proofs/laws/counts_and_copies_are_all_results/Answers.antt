use Rattle.sarif_laws_once.proofs.Together.{results_together}
use Rattle.sarif_laws_once.proofs.laws.counts_and_copies_are_all_results.Goals as goal

pub returns : goal.returns
returns c = results_together
