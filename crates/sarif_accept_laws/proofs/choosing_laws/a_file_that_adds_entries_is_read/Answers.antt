use Rattle.sarif_accept_laws.proofs.NewFileRead.{new_file_adding}
use Rattle.sarif_accept_laws.proofs.choosing_laws.a_file_that_adds_entries_is_read.Goals as goal

pub returns : goal.returns
returns c = new_file_adding
