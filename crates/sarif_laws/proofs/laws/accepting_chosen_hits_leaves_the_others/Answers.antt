use Rattle.sarif_laws.proofs.AcceptedChosen.{law_of_choosing}
use Rattle.sarif_laws.proofs.laws.accepting_chosen_hits_leaves_the_others.Goals as goal

pub returns : goal.returns
returns c = law_of_choosing
