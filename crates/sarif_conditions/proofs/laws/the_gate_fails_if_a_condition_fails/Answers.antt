use Rattle.sarif_conditions.proofs.DecidedLaws.{verdict_means, fail_has_hit, told_verdict}
use Rattle.sarif_conditions.proofs.laws.the_gate_fails_if_a_condition_fails.Goals as goal

pub returns-clause-condition : goal.returns-clause-condition
returns-clause-condition c = verdict_means

pub returns-clause-hit : goal.returns-clause-hit
returns-clause-hit c = fail_has_hit

pub returns-clause-told : goal.returns-clause-told
returns-clause-told c = told_verdict
