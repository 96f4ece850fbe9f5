use Rattle.sarif_laws.proofs.RuledMerge.{merge_found, merge_ruled}
use Rattle.sarif_laws.proofs.policy.findings_of_a_merge_follow_its_policy.Goals as goal

pub returns-clause-ruled : goal.returns-clause-ruled
returns-clause-ruled c = merge_ruled

pub returns-clause-found : goal.returns-clause-found
returns-clause-found c = merge_found
