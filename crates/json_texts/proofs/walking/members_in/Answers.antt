use Rattle.json_texts.proofs.Standing.{opens_object}
use Rattle.json_texts.proofs.walking.members_in.Goals as goal

pub returns : goal.returns
returns c = opens_object c.args.element.now c.requires c.members.result c.members.ensures
