use Rattle.sarif_reports.proofs.JunitLaws.{characters_allowed}
use Rattle.sarif_reports.proofs.laws.junit_characters_are_allowed.Goals as goal

pub returns : goal.returns
returns c = characters_allowed
