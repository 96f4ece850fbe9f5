use Rattle.sarif_laws_once.proofs.LogWithout.{log_left}
use Rattle.sarif_laws_once.proofs.laws.the_log_without_its_copies_has_the_findings.Goals as goal

pub returns : goal.returns
returns c = log_left
