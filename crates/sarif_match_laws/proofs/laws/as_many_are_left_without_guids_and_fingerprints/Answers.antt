use Rattle.sarif_match_laws.proofs.SameCounts.{as_many_by, as_many_in_two, as_many_without_text}
use Rattle.sarif_match_laws.proofs.laws.as_many_are_left_without_guids_and_fingerprints.Goals as goal

pub returns-clause-versions : goal.returns-clause-versions
returns-clause-versions c = as_many_in_two

pub returns-clause-tiers : goal.returns-clause-tiers
returns-clause-tiers c = λ current baseline tiers currents baselines. as_many_by current baseline currents baselines tiers

pub returns-clause-text : goal.returns-clause-text
returns-clause-text c = as_many_without_text
