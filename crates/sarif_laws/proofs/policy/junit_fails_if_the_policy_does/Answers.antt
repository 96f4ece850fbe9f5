use Rattle.sarif_laws.proofs.RuledMerge.{junit_fails}
use Rattle.sarif_laws.proofs.policy.junit_fails_if_the_policy_does.Goals as goal

pub returns : goal.returns
returns c = junit_fails
