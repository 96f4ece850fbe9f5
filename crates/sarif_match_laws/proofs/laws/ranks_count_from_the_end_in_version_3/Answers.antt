use Rattle.sarif_match_laws.proofs.FromEndRanks.{are_partners, partners_are}
use Rattle.sarif_match_laws.proofs.laws.ranks_count_from_the_end_in_version_3.Goals as goal

pub returns : goal.returns
returns c = λ current baseline i j. (are_partners current baseline i j, partners_are current baseline i j)
