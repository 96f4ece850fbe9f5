use Rattle.sarif_accept_laws.proofs.After.{list_begins_adding}
use Rattle.sarif_accept_laws.proofs.choosing_laws.hits_that_no_entry_matches_are_left.Goals as goal

pub returns-clause-begins : goal.returns-clause-begins
returns-clause-begins c = list_begins_adding
