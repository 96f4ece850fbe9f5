use Rattle.sarif_match_laws.proofs.VersionLaws.{nothing_left, no_group_left}
use Rattle.sarif_match_laws.proofs.laws.nothing_is_left_in_either_version.Goals as goal

pub returns-clause-keys : goal.returns-clause-keys
returns-clause-keys c = nothing_left

pub returns-clause-groups : goal.returns-clause-groups
returns-clause-groups c = no_group_left
