use Rattle.sarif_inputs_laws.proofs.Ignored.{ignored_missing}
use Rattle.sarif_inputs_laws.proofs.laws.ignored_fingerprints_may_be_left_out.Goals as goal

pub returns : goal.returns
returns c = ignored_missing
