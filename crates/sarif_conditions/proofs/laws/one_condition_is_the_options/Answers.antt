use Rattle.sarif_conditions.proofs.DecidedLaws.{one_condition, one_reported, one_verdict}
use Rattle.sarif_conditions.proofs.laws.one_condition_is_the_options.Goals as goal

pub returns-clause-hits : goal.returns-clause-hits
returns-clause-hits c = one_condition

pub returns-clause-reported : goal.returns-clause-reported
returns-clause-reported c = one_reported

pub returns-clause-verdict : goal.returns-clause-verdict
returns-clause-verdict c = one_verdict
