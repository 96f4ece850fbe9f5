use Rattle.sarif_laws_policy.proofs.AcceptedHits.{accepted_hits}
use Rattle.sarif_laws_policy.proofs.laws.accepting_takes_the_hits_of_a_policy.Goals as goal

pub returns : goal.returns
returns c = accepted_hits
