use Rattle.json_parts.proofs.Stripped.{get-without_same}
use Rattle.json_parts.proofs.laws.the_member_goes.Goals as goal

pub returns : goal.returns
returns c = get-without_same
