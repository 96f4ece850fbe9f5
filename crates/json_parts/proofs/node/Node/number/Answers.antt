use Rattle.std.proofs.Common.{◌≡◌, None, option_map, ap, ◌∙◌, arith}
use Rattle.serde_json.specs.Find.{as_number}
use Rattle.serde_json.specs.View.{number_view}
use Rattle.json_parts.specs.Indexed.{data_of}
use Rattle.json_parts.proofs.Fractions.{number_at, no_number_at}
use Rattle.json_parts.proofs.node.Node.number.Goals as goal

pub returns-in_err-text : goal.returns-in_err-text
returns-in_err-text c =
    let gone : c.from_residual.result ≡ None = grind arith in
    ap (option_map number_view) gone ∙ no_number_at c.self.inside.element c.self.invariant c.in_err-text.ensures
    ∙ ap (λ x. as_number (data_of x)) c.self.view_is

pub returns : goal.returns
returns c = c.parse_number.ensures ∙ number_at c.self.inside.element c.self.invariant c.in_ok-text.text.now c.in_ok-text.ensures
    ∙ ap (λ x. as_number (data_of x)) c.self.view_is
