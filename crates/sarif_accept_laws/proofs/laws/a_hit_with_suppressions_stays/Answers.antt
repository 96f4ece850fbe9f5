use Rattle.sarif_accept.proofs.Staying.{stays_with_some}
use Rattle.sarif_accept_laws.proofs.laws.a_hit_with_suppressions_stays.Goals as goal

pub returns : goal.returns
returns c = stays_with_some
