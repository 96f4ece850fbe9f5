use Rattle.sarif_accept_laws.proofs.ChosenCounted.{all_counted}
use Rattle.sarif_accept_laws.proofs.choosing_laws.each_hit_is_accepted_alike_or_another.Goals as goal

pub returns : goal.returns
returns c = λ marks counts file es. all_counted counts file es marks
