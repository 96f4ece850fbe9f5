use Rattle.sarif_findings.proofs.SeenMore.{shown_apart}
use Rattle.sarif_shown.proofs.laws.shown_signs_stand_apart.Goals as goal

pub returns : goal.returns
returns c = shown_apart
