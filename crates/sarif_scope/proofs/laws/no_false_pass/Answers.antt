use Rattle.sarif_scope.proofs.HitsMore.{never_outside_of, without_locations}
use Rattle.sarif_scope.proofs.laws.no_false_pass.Goals as goal

pub returns-clause-location : goal.returns-clause-location
returns-clause-location c = never_outside_of

pub returns-clause-no_location : goal.returns-clause-no_location
returns-clause-no_location c = without_locations
