use Rattle.sarif_match_laws.proofs.BlindSpot.{evidence_or_last, tier_of}
use Rattle.sarif_match_laws.proofs.laws.matches_have_evidence_but_for_the_last_tier.Goals as goal

pub returns-clause-tier : goal.returns-clause-tier
returns-clause-tier c = tier_of

pub returns-clause-evidence : goal.returns-clause-evidence
returns-clause-evidence c = evidence_or_last
