use Rattle.std.proofs.Common.{sym, ap, ◌∙◌}
use Rattle.serde_json.specs.Data.{array}
use Rattle.serde_json.specs.Find.{as_array}
use Rattle.json_parts.proofs.Walks.{before, before_one, before_none}
use Rattle.json_parts.proofs.node.Node.items.Goals as goal

pub items-preserved : goal.items-preserved
items-preserved c =
    let l = c.items.invariant in
    let f = c.in-Some-next_element.ensures.value l.0 l.1 l.2 in
    let found = c.items.found.items in
    let turn = ap (before found) f.1 ∙ sym (before_one found c.in-Some-next_element.element f.0) ∙ ap (λ x. before x f.0) (sym c.in_ok-push.ensures.items) in
    (l.0, f.0, f.3, l.3 ∙ ap array turn)

pub returns : goal.returns
returns c =
    let l = c.items.invariant in
    let over = c.in_default-next_element.ensures.value l.0 l.1 l.2 in
    sym (ap as_array (l.3 ∙ ap array (ap (before c.items.found.items) over ∙ before_none c.items.found.items)))
