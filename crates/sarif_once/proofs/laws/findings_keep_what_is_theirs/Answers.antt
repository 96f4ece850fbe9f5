use Rattle.sarif_model.specs.declared.kinds.State.TheVariants.{New}
use Rattle.sarif_once.proofs.Spread.{spread_found}
use Rattle.sarif_once.proofs.laws.findings_keep_what_is_theirs.Goals as goal
use Rattle.std.proofs.Common.{false}

pub returns-clause-states : goal.returns-clause-states
returns-clause-states c = spread_found New

pub returns-clause-marks : goal.returns-clause-marks
returns-clause-marks c = spread_found false
