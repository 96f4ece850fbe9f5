use Rattle.std.proofs.Common.{ap, ◌∙◌}
use Rattle.serde_json.specs.Find.{as_str}
use Rattle.json_parts.specs.Indexed.{data_of}
use Rattle.json_parts.proofs.Readings.{known, kind, as_str_is}
use Rattle.json_parts.proofs.node.Node.as_str.Goals as goal

pub returns : goal.returns
returns c =
    let ts = c.self.inside.element in
    let k = known ts c.self.invariant in
    c.as_str.ensures k.0 k.1 ∙ as_str_is k.0 (data_of ts) (kind k.0 (data_of ts) k.3) ∙ ap (λ x. as_str (data_of x)) c.self.view_is
