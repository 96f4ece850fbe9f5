use Rattle.sarif_suppress.proofs.LimitedResults.{unlimited_same}
use Rattle.sarif_suppress.proofs.limited_laws.results_stay_if_no_entry_has_a_limit.Goals as goal

pub returns : goal.returns
returns c = unlimited_same
