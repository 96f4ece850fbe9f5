use Rattle.sarif_match_laws.proofs.VersionLaws.{once_in}
use Rattle.sarif_match_laws.proofs.laws.no_two_have_the_same_match_in_either_version.Goals as goal

pub returns : goal.returns
returns c = once_in
