use Rattle.std.proofs.Common.{ap}
use Rattle.sarif_members.specs.Fingerprints.{pairs_among}
use Rattle.json_parts.proofs.SameMembers.{same_members}
use Rattle.sarif_members.proofs.laws.same_members_give_the_same_pairs.Goals as goal

pub returns : goal.returns
returns c = λ ms ns ordered rising same. ap pairs_among (same_members ms ns ordered rising same)
