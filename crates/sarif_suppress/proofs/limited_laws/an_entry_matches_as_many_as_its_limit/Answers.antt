use Rattle.sarif_suppress.proofs.LimitedResults.{as_many}
use Rattle.sarif_suppress.proofs.limited_laws.an_entry_matches_as_many_as_its_limit.Goals as goal

pub returns : goal.returns
returns c = as_many
