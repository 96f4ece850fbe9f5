use Rattle.json_parts.proofs.Stripped.{get-stripped}
use Rattle.json_parts.proofs.laws.members_are_stripped.Goals as goal

pub returns : goal.returns
returns c = get-stripped
