use Rattle.sarif_laws_once.proofs.Ruled.{told_without}
use Rattle.sarif_laws_once.proofs.policy.findings_follow_the_policy_without_copies.Goals as goal

pub returns : goal.returns
returns c = told_without
