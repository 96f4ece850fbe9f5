use Rattle.sarif_match.proofs.LawLemmas.{partners-are, are-partners}
use Rattle.sarif_match_laws.proofs.laws.partners_are_paired_at_one_tier.Goals as goal

pub returns : goal.returns
returns c = λ current baseline i j. (partners-are current baseline i j, are-partners current baseline i j)
