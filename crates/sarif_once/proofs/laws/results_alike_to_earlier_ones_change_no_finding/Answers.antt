use Rattle.sarif_once.proofs.More.{findings_same}
use Rattle.sarif_once.proofs.laws.results_alike_to_earlier_ones_change_no_finding.Goals as goal

pub returns : goal.returns
returns c = findings_same
