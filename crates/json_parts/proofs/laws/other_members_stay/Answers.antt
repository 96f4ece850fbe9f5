use Rattle.json_parts.proofs.Stripped.{get-without_other}
use Rattle.json_parts.proofs.laws.other_members_stay.Goals as goal

pub returns : goal.returns
returns c = get-without_other
