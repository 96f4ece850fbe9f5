use Rattle.sarif_read.proofs.Only.{results_without}
use Rattle.sarif_once.proofs.laws.results_that_are_not_marked_stay.Goals as goal

pub returns : goal.returns
returns c = results_without
