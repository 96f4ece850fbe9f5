use Rattle.sarif_accept_laws.proofs.ChosenCounted.{others_left}
use Rattle.sarif_accept_laws.proofs.choosing_laws.other_hits_are_left.Goals as goal

pub returns : goal.returns
returns c = others_left
