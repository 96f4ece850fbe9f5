use Rattle.sarif_runs.specs.Internal.Opened.{placed_of}
use Rattle.sarif_inputs.specs.Internal.ReadRun.{placed_read}
use Rattle.sarif_inputs.proofs.Shared.{mapped_alike}
use Rattle.sarif_inputs.proofs.opening.open_each.Goals as goal

pub returns : goal.returns
returns g c = mapped_alike placed_read placed_of c.args.runs.items c.in_ok-opened.opened.items c.in_ok-opened.ensures
