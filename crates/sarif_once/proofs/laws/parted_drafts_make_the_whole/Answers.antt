use Rattle.sarif_once.proofs.Lists.{woven_back}
use Rattle.sarif_once.proofs.laws.parted_drafts_make_the_whole.Goals as goal

pub returns : goal.returns
returns c = woven_back
