use Rattle.sarif_conditions.proofs.DecidedLaws.{split_hits}
use Rattle.sarif_conditions.proofs.laws.a_condition_may_be_split.Goals as goal

pub returns : goal.returns
returns c = split_hits
