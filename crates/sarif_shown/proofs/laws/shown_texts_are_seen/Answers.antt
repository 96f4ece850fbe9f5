use Rattle.sarif_findings.proofs.SeenMore.{shown_seen}
use Rattle.sarif_shown.proofs.laws.shown_texts_are_seen.Goals as goal

pub returns : goal.returns
returns c = shown_seen
