use Rattle.std.proofs.Common.{subst}
use Rattle.json_parts.specs.Internal.Walking.{OpensObject}
use Rattle.json_parts.proofs.Walks.{opens_object}
use Rattle.sarif_members.proofs.passing.members_in.Goals as goal

pub returns : goal.returns
returns c =
    subst (λ ts. OpensObject ts c.members.result) c.element-element.ensures.same
    (opens_object c.element-element.result c.element-element.ensures.read c.members.result c.members.ensures)
