use Rattle.sarif_laws_once.proofs.Ruled.{accepted_without}
use Rattle.sarif_laws_once.proofs.policy.accepting_takes_the_hits_without_copies.Goals as goal

pub returns : goal.returns
returns c = accepted_without
