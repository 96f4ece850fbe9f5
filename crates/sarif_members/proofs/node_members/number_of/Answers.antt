use Rattle.std.proofs.Common.{◌≡◌, None, option_map, sym, ap, ◌∙◌, arith}
use Rattle.serde_json.specs.Find.{as_number}
use Rattle.serde_json.specs.View.{number_view}
use Rattle.json_parts.specs.Indexed.{data_of}
use Rattle.json_parts.proofs.Fractions.{number_at, no_number_at}
use Rattle.sarif_read.proofs.NodeValues.{same_number}
use Rattle.sarif_members.proofs.node_members.number_of.Goals as goal

pub returns-in_err-text : goal.returns-in_err-text
returns-in_err-text c =
    let gone : c.from_residual.result ≡ None = grind arith in
    ap (option_map number_view) gone ∙ no_number_at c.element-element.result c.element-element.ensures.read c.in_err-text.ensures
    ∙ ap (λ x. as_number (data_of x)) c.element-element.ensures.same ∙ sym (same_number (data_of c.args.node.now))

pub returns : goal.returns
returns c =
    c.parse_number.ensures ∙ number_at c.element-element.result c.element-element.ensures.read c.in_ok-text.text.now c.in_ok-text.ensures
    ∙ ap (λ x. as_number (data_of x)) c.element-element.ensures.same ∙ sym (same_number (data_of c.args.node.now))
