use Rattle.sarif_shown.proofs.PolicyCounted.{policy_first, policy_hits, policy_shown, policy_verdict}
use Rattle.sarif_shown.proofs.policy_laws.conditions_decide_what_is_shown.Goals as goal

pub returns-clause-hits : goal.returns-clause-hits
returns-clause-hits c = policy_hits

pub returns-clause-first : goal.returns-clause-first
returns-clause-first c = policy_first

pub returns-clause-all : goal.returns-clause-all
returns-clause-all c = policy_shown

pub returns-clause-verdict : goal.returns-clause-verdict
returns-clause-verdict c = policy_verdict
