use Rattle.json_parts.specs.Indexed.{data_of}
use Rattle.json_parts.proofs.Walks.{first_found}
use Rattle.json_parts.proofs.node.Node.first_item.Goals as goal

pub returns : goal.returns
returns c =
    let o = c.in_ok-elements.ensures in
    first_found o.0 (data_of c.args.self.now) o.1 c.next_element.result c.next_element.new.items o.3 (c.next_element.ensures.value o.0 o.1 o.4)
