use Rattle.sarif_request.proofs.Fitting.{leaving}
use Rattle.sarif_request.proofs.laws.policies_replace_options.Goals as goal

pub returns : goal.returns
returns c = leaving
