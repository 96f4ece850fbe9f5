use Rattle.sarif_conditions.proofs.DecidedLaws.{least_limit, most_limit}
use Rattle.sarif_conditions.proofs.laws.a_limit_grows_by_absent_results_at_most.Goals as goal

pub returns-clause-least : goal.returns-clause-least
returns-clause-least c = least_limit

pub returns-clause-most : goal.returns-clause-most
returns-clause-most c = most_limit
