use Rattle.sarif_read.proofs.NoFraction.{twice}
use Rattle.sarif_read.proofs.laws.stripping_twice_is_once.Goals as goal

pub returns : goal.returns
returns c = twice
