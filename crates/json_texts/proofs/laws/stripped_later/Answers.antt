use Rattle.json_texts.proofs.Again.{stripped_again}
use Rattle.json_texts.proofs.laws.stripped_later.Goals as goal

pub returns : goal.returns
returns c = stripped_again
