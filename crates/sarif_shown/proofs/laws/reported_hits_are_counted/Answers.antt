use Rattle.sarif_shown.proofs.FindingsInside.{hits_inside}
use Rattle.sarif_shown.proofs.laws.reported_hits_are_counted.Goals as goal

pub returns : goal.returns
returns c = hits_inside
