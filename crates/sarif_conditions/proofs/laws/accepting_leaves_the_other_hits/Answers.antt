use Rattle.sarif_conditions.proofs.AcceptedHits.{hits_left, known_left, none_pass}
use Rattle.sarif_conditions.proofs.laws.accepting_leaves_the_other_hits.Goals as goal

pub returns-clause-hits : goal.returns-clause-hits
returns-clause-hits c = hits_left

pub returns-clause-known : goal.returns-clause-known
returns-clause-known c = known_left

pub returns-clause-pass : goal.returns-clause-pass
returns-clause-pass c = none_pass
