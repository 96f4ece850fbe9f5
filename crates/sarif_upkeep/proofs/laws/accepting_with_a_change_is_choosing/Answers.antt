use Rattle.sarif_upkeep.proofs.Inside.{accepted_shown, added_shown, faults_shown, file_shown, none_stay}
use Rattle.sarif_upkeep.proofs.laws.accepting_with_a_change_is_choosing.Goals as goal

pub returns-clause-accepted : goal.returns-clause-accepted
returns-clause-accepted c = accepted_shown

pub returns-clause-added : goal.returns-clause-added
returns-clause-added c = added_shown

pub returns-clause-file : goal.returns-clause-file
returns-clause-file c = file_shown

pub returns-clause-faults : goal.returns-clause-faults
returns-clause-faults c = faults_shown

pub returns-clause-absent : goal.returns-clause-absent
returns-clause-absent c = none_stay
