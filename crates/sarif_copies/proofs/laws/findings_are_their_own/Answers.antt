use Rattle.sarif_copies.proofs.OneFinding.{first_and_own}
use Rattle.sarif_copies.proofs.laws.findings_are_their_own.Goals as goal

pub returns : goal.returns
returns c = first_and_own
