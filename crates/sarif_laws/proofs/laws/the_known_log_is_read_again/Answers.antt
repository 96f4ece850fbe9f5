use Rattle.sarif_laws.proofs.Remembered.{known_read}
use Rattle.sarif_laws.proofs.laws.the_known_log_is_read_again.Goals as goal

pub returns : goal.returns
returns c = known_read
