use Rattle.sarif_read.proofs.NoFraction.{no_fraction_members}
use Rattle.sarif_read.proofs.laws.stripped_holds_no_fraction.Goals as goal

pub returns : goal.returns
returns c = no_fraction_members
