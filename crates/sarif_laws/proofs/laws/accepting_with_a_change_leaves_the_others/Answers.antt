use Rattle.sarif_laws.proofs.Changed.{law_of_a_change}
use Rattle.sarif_laws.proofs.laws.accepting_with_a_change_leaves_the_others.Goals as goal

pub returns : goal.returns
returns c = law_of_a_change
