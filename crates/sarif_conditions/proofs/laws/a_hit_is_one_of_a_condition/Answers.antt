use Rattle.sarif_conditions.proofs.DecidedLaws.{hit_means}
use Rattle.sarif_conditions.proofs.laws.a_hit_is_one_of_a_condition.Goals as goal

pub returns : goal.returns
returns c = hit_means
