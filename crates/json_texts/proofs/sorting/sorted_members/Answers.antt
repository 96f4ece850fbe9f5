use Rattle.std.proofs.Common.{sym, ap, ◌∙◌, arith}
use Rattle.json_texts.specs.Internal.Walking.{in_order, members_at}
use Rattle.json_texts.proofs.sorting.sorted_members.Goals as goal

pub members-preserved : goal.members-preserved
members-preserved c =
    let l = c.members.invariant in
    let f = c.in-Some-take_member.ensures.value l.0 l.1 l.2 in
    let ls = c.members.list.items in
    let p = c.in_ok-put_member.ensures in (
      l.0,
      f.0,
      f.3,
      l.3,
      (l.4.0, l.4.1, l.4.2 ∙ ap (λ ms. in_order ms (members_at ls)) f.1 ∙ ap (in_order f.0) (sym p.put)),
      p.writable,
      omega (arith, p.nested, f.2, l.6),
    )

pub returns : goal.returns
returns c =
    let l = c.members.invariant in
    let over = c.in_default-take_member.ensures.value l.0 l.1 l.2 in
    (l.4.0, l.4.1, sym (l.4.2 ∙ ap (λ r. in_order r (members_at c.members.list.items)) over), l.5, omega (arith, l.3, l.6))
