use Rattle.json_texts.proofs.Standing.{opens_array}
use Rattle.json_texts.proofs.walking.items_in.Goals as goal

pub returns : goal.returns
returns c = opens_array c.args.element.now c.requires c.items.result c.items.ensures
