use Rattle.sarif_change.proofs.GrowthMore.{by_growth}
use Rattle.sarif_change.proofs.laws.what_is_inside_stays_inside.Goals as goal

pub returns : goal.returns
returns c = by_growth
