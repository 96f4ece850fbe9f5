use Rattle.std.proofs.Common.{subst}
use Rattle.json_parts.specs.Internal.Walking.{OpensObject}
use Rattle.json_parts.proofs.Walks.{opens_object}
use Rattle.json_parts.proofs.node.Node.members.Goals as goal

pub returns : goal.returns
returns c = subst (λ x. OpensObject x c.members.result) c.self.view_is (opens_object c.self.inside.element c.self.invariant c.members.result c.members.ensures)
