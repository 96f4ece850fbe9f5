use Rattle.json_texts.proofs.Again.{read_again}
use Rattle.json_texts.proofs.laws.what_is_written_is_read_again.Goals as goal

pub returns : goal.returns
returns c = read_again
