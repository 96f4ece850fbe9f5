use Rattle.sarif_laws.proofs.SameBaseline.{same_results}
use Rattle.sarif_laws.proofs.laws.own_suppressions_of_a_baseline_change_no_result.Goals as goal

pub returns : goal.returns
returns c = same_results
