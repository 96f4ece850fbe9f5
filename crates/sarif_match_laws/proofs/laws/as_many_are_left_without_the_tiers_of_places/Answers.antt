use Rattle.sarif_match_laws.proofs.AsMany.{as_many_without_places}
use Rattle.sarif_match_laws.proofs.laws.as_many_are_left_without_the_tiers_of_places.Goals as goal

pub returns : goal.returns
returns c = as_many_without_places
