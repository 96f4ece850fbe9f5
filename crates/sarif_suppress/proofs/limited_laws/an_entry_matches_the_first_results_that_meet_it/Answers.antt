use Rattle.sarif_suppress.proofs.LimitedResults.{first_match}
use Rattle.sarif_suppress.proofs.limited_laws.an_entry_matches_the_first_results_that_meet_it.Goals as goal

pub returns : goal.returns
returns c = first_match
