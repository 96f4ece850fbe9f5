use Rattle.sarif_request.proofs.Fitting.{changed, chosen_accepted, expiring, justified}
use Rattle.sarif_request.proofs.laws.requested_renewals_are_sound.Goals as goal

pub returns-clause-changes : goal.returns-clause-changes
returns-clause-changes c = changed

pub returns-clause-justified : goal.returns-clause-justified
returns-clause-justified c = justified

pub returns-clause-expiring : goal.returns-clause-expiring
returns-clause-expiring c = expiring

pub returns-clause-choosing : goal.returns-clause-choosing
returns-clause-choosing c = chosen_accepted
