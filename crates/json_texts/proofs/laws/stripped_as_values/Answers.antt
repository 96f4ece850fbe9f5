use Rattle.json_texts.proofs.Agree.{stripped_text}
use Rattle.json_texts.proofs.laws.stripped_as_values.Goals as goal

pub returns : goal.returns
returns c = stripped_text
