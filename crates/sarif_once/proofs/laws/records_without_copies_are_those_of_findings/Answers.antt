use Rattle.sarif_once.proofs.Marks.{findings_left}
use Rattle.sarif_once.proofs.laws.records_without_copies_are_those_of_findings.Goals as goal

pub returns : goal.returns
returns c = findings_left
