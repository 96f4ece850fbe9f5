use Rattle.sarif_match.proofs.LawLemmas.{tier-tells, tier-adds}
use Rattle.sarif_match_laws.proofs.laws.a_tier_adds_just_its_pairs.Goals as goal

pub returns : goal.returns
returns c = λ current baseline before tier i j. (tier-tells current baseline before tier i j, tier-adds current baseline before tier i j)
