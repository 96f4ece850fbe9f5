use Rattle.sarif_laws.proofs.LeftByConditions.{law_of_a_policy}
use Rattle.sarif_laws.proofs.policy.accepting_with_a_policy_leaves_the_others.Goals as goal

pub returns : goal.returns
returns c inputs policy choice cs renewal text none whole given small accepts until is =
    law_of_a_policy inputs policy cs renewal text none whole given accepts until choice small is
