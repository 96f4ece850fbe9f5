use Rattle.sarif_laws_once.proofs.Ruled.{ruled_same, told_same}
use Rattle.sarif_laws_once.proofs.policy.policies_decide_the_same_if_copies_are_taken_out.Goals as goal

pub returns : goal.returns
returns c = record {
  facts = λ inputs logs baselines none once regions read. ruled_same inputs logs baselines none once regions read;
  findings = λ inputs logs baselines asked none once regions read. told_same inputs logs baselines none once regions read asked;
}
