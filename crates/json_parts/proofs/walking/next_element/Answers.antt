use Rattle.std.proofs.Common.{◌≡◌, Some, None, sym, subst, arith}
use Rattle.json_parts.specs.Internal.Walking.{NextElement}
use Rattle.json_parts.proofs.Walks.{element_at, next_element_is}
use Rattle.json_parts.proofs.walking.next_element.Goals as goal

pub returns-in_err-element-clause-value : goal.returns-in_err-element-clause-value
returns-in_err-element-clause-value c =
    let gone : c.from_residual.result ≡ None = grind arith in
    subst (λ r. NextElement c.args.items.now r c.next_item.new.self) (sym gone)
    (next_element_is c.args.items.now c.next_item.new.self None c.in_err-element.ensures.value)

pub new-requires : goal.new-requires
new-requires c =
    (element_at c.requires.0 c.args.items.now c.next_item.new.self c.requires.1
    (Some c.in_ok-element.element) c.requires.2 c.in_ok-element.ensures.value).0

pub returns-clause-value : goal.returns-clause-value
returns-clause-value c =
    subst (λ ts. NextElement c.args.items.now (Some ts) c.next_item.new.self) (sym c.new.ensures)
    (next_element_is c.args.items.now c.next_item.new.self (Some c.in_ok-element.element) c.in_ok-element.ensures.value)
