use Rattle.std.proofs.Common.{is_some, subst, ◌≡◌}
use Rattle.serde_json.specs.Find.{as_null}
use Rattle.json_parts.specs.Indexed.{data_of}
use Rattle.json_parts.proofs.Walks.{is_null_at}
use Rattle.json_parts.proofs.node.Node.is_null.Goals as goal

pub returns : goal.returns
returns c = subst (λ x. c.is_null.result ≡ is_some (as_null (data_of x))) c.self.view_is
    (is_null_at c.self.inside.element c.is_null.result c.self.invariant c.is_null.ensures)
