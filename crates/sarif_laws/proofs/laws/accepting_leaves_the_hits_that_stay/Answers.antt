use Rattle.sarif_laws.proofs.Accepted.{law_of_accepting}
use Rattle.sarif_laws.proofs.laws.accepting_leaves_the_hits_that_stay.Goals as goal

pub returns : goal.returns
returns c = law_of_accepting
