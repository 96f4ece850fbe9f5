use Rattle.sarif_scope.proofs.HitsMore.{left_by, split_by}
use Rattle.sarif_scope.proofs.laws.hits_are_inside_or_outside.Goals as goal

pub returns-clause-together : goal.returns-clause-together
returns-clause-together c = split_by

pub returns-clause-without : goal.returns-clause-without
returns-clause-without c = left_by
