use Rattle.sarif_accept_laws.proofs.After.{list_begins}
use Rattle.sarif_accept_laws.proofs.laws.a_new_file_keeps_suppressions.Goals as goal

pub returns-clause-begins : goal.returns-clause-begins
returns-clause-begins c = list_begins
