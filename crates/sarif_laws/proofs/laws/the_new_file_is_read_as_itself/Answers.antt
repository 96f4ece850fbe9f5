use Rattle.sarif_laws.proofs.NewFile.{new_file_read}
use Rattle.sarif_laws.proofs.laws.the_new_file_is_read_as_itself.Goals as goal

pub returns : goal.returns
returns c = new_file_read
