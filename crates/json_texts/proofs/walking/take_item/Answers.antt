use Rattle.json_texts.proofs.Standing.{next_item_is, item_writable}
use Rattle.json_texts.proofs.walking.take_item.Goals as goal

pub returns-clause-value : goal.returns-clause-value
returns-clause-value c = next_item_is c.args.items.now c.next_item.new.self c.next_item.result c.next_item.ensures.value

pub returns-clause-writable : goal.returns-clause-writable
returns-clause-writable c =
    item_writable c.requires.0 c.requires.1 c.args.items.now c.next_item.new.self c.next_item.result c.requires.2 c.next_item.ensures.value
