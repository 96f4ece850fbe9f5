use Rattle.sarif_request.proofs.Fitting.{not_past}
use Rattle.sarif_request.proofs.laws.expiry_dates_are_not_past.Goals as goal

pub returns : goal.returns
returns c = not_past
