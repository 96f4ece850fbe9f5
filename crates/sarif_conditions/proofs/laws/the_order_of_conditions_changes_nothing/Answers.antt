use Rattle.sarif_conditions.proofs.DecidedLaws.{same_hits, same_verdict}
use Rattle.sarif_conditions.proofs.laws.the_order_of_conditions_changes_nothing.Goals as goal

pub returns-clause-hits : goal.returns-clause-hits
returns-clause-hits c = same_hits

pub returns-clause-verdict : goal.returns-clause-verdict
returns-clause-verdict c = same_verdict
