use Rattle.sarif_accept_laws.proofs.NewFileRead.{new_file_read}
use Rattle.sarif_accept_laws.proofs.laws.the_new_file_is_read.Goals as goal

pub returns : goal.returns
returns c = new_file_read
