use Rattle.sarif_accept_laws.proofs.ChosenCounted.{hits_counted}
use Rattle.sarif_accept_laws.proofs.choosing_laws.each_hit_is_accepted_alike_or_left.Goals as goal

pub returns : goal.returns
returns c = hits_counted
