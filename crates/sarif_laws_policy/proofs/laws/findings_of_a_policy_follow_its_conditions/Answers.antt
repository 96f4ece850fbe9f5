use Rattle.sarif_laws_policy.proofs.TellingAll.{ruled_told}
use Rattle.sarif_laws_policy.proofs.laws.findings_of_a_policy_follow_its_conditions.Goals as goal

pub returns : goal.returns
returns c = λ version file change now before cs reporting records.
    ruled_told version file change now before cs records reporting
