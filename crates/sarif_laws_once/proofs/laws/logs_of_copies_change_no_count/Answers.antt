use Rattle.sarif_laws_once.proofs.MoreLogs.{more_same}
use Rattle.sarif_laws_once.proofs.laws.logs_of_copies_change_no_count.Goals as goal

pub returns : goal.returns
returns c = more_same
