use Rattle.sarif_collect.proofs.Honesty.{taken}
use Rattle.sarif_collect.proofs.laws.pieces_of_honest_workers_are_taken.Goals as goal

pub returns : goal.returns
returns g c = λ count item end runs shares arrived honest. taken count item end runs shares arrived honest
