use Rattle.std.proofs.Common.{ap, ◌∙◌}
use Rattle.serde_json.specs.Find.{as_bool}
use Rattle.json_parts.specs.Indexed.{data_of}
use Rattle.json_parts.proofs.Fractions.{bool_at}
use Rattle.json_parts.proofs.node.Node.as_bool.Goals as goal

pub returns : goal.returns
returns c = bool_at c.self.inside.element c.self.invariant c.as_bool.result c.as_bool.ensures ∙ ap (λ x. as_bool (data_of x)) c.self.view_is
