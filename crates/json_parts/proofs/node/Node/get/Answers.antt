use Rattle.std.proofs.Common.{◌≡◌, Some, None, option_map, sym, ap, ◌∙◌, arith}
use Rattle.serde_json.specs.Find.{get}
use Rattle.json_parts.specs.Indexed.{data_of}
use Rattle.json_parts.proofs.Walks.{gets_at}
use Rattle.json_parts.proofs.node.Node.get.Goals as goal

pub returns-in_err-element : goal.returns-in_err-element
returns-in_err-element c =
    let gone : c.from_residual.result ≡ None = grind arith in
    ap (option_map data_of) gone ∙ sym (gets_at c.args.name.now c.self.inside.element c.self.invariant None c.in_err-element.ensures)
    ∙ ap (λ x. get c.args.name.now (data_of x)) c.self.view_is

pub invariant_of-result : goal.invariant_of-result
invariant_of-result c = (gets_at c.args.name.now c.self.inside.element c.self.invariant (Some c.in_ok-element.element) c.in_ok-element.ensures).0

pub returns : goal.returns
returns c =
    sym (gets_at c.args.name.now c.self.inside.element c.self.invariant (Some c.in_ok-element.element) c.in_ok-element.ensures).1
    ∙ ap (λ x. get c.args.name.now (data_of x)) c.self.view_is
