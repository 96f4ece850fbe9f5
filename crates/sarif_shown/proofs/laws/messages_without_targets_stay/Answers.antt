use Rattle.sarif_shown.proofs.LinksApart.{texts_stay}
use Rattle.sarif_shown.proofs.laws.messages_without_targets_stay.Goals as goal

pub returns : goal.returns
returns c = texts_stay
