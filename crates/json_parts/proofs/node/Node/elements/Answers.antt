use Rattle.std.proofs.Common.{subst}
use Rattle.json_parts.specs.Internal.Walking.{OpensArray}
use Rattle.json_parts.proofs.Walks.{opens_array}
use Rattle.json_parts.proofs.node.Node.elements.Goals as goal

pub returns : goal.returns
returns c = subst (λ x. OpensArray x c.items.result) c.self.view_is (opens_array c.self.inside.element c.self.invariant c.items.result c.items.ensures)
