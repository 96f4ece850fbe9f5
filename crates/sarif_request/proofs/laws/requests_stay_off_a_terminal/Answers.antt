use Rattle.sarif_request.proofs.OffTerminal.{off_terminal}
use Rattle.sarif_request.proofs.laws.requests_stay_off_a_terminal.Goals as goal

pub returns : goal.returns
returns c = off_terminal
