use Rattle.sarif_laws_once.proofs.Ruled.{facts_without}
use Rattle.sarif_laws_once.proofs.policy.conditions_decide_without_copies.Goals as goal

pub returns : goal.returns
returns c = facts_without
