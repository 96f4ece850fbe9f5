use Rattle.sarif_reports.proofs.PolicyFindings.{policy_cases, policy_fails, policy_shown}
use Rattle.sarif_reports.proofs.policy_laws.junit_cases_follow_conditions.Goals as goal

pub returns-clause-cases : goal.returns-clause-cases
returns-clause-cases c = policy_cases

pub returns-clause-hits : goal.returns-clause-hits
returns-clause-hits c = policy_shown

pub returns-clause-verdict : goal.returns-clause-verdict
returns-clause-verdict c = policy_fails
