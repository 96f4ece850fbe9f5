use Rattle.sarif_laws.proofs.RuledMerge.{policy_accepts}
use Rattle.sarif_laws.proofs.policy.accepting_takes_the_hits_of_the_policy.Goals as goal

pub returns : goal.returns
returns c = policy_accepts
