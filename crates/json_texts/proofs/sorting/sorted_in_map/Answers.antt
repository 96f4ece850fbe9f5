use Rattle.std.proofs.Common.{◌≤◌, ◌++◌, sym, ap, ◌∙◌, subst, arith}
use Rattle.json_texts.specs.Internal.Walking.{AreWritable, in_order, members_at, nesting}
use Rattle.json_texts.proofs.Orders.{listed, listed_put, listed_writable, listed_nesting}
use Rattle.json_texts.proofs.sorting.sorted_in_map.Goals as goal

pub members-preserved : goal.members-preserved
members-preserved c =
    let l = c.members.invariant in
    let f = c.in-Some-take_member.ensures.value l.0 l.1 l.2 in
    let k = c.in-Some-take_member.name in
    let v = c.in-Some-take_member.value in
    let es = c.members.found.entries in
    let now = c.in_ok-insert.ensures.entries in (
      l.0,
      f.0,
      f.3,
      l.3,
      (
        l.4.0,
        l.4.1,
        l.4.2 ∙ ap (λ ms. in_order ms (members_at (listed es))) f.1
            ∙ ap (in_order f.0) (sym (ap (λ e. members_at (listed e)) now ∙ listed_put es k v)),
      ),
      subst (λ e. AreWritable (listed e)) (sym now) (listed_writable es k v c.in-Some-take_member.ensures.writable l.5),
      omega (arith, ap (λ e. nesting (listed e)) now, listed_nesting es k v, f.2, l.6),
    )

pub listed-init : goal.listed-init
listed-init c =
    let l = c.members.invariant in
    let over = c.in_default-take_member.ensures.value l.0 l.1 l.2 in
    let es = c.members.found.entries in
    let none = c.new-list.ensures.items in (
      l.0,
      l.3,
      (l.4.0, l.4.1, ap (λ xs. members_at (xs ++ listed es)) none ∙ sym (l.4.2 ∙ ap (λ r. in_order r (members_at (listed es))) over)),
      subst (λ xs. AreWritable (xs ++ listed es)) (sym none) l.5,
      subst (λ xs. nesting (xs ++ listed es) ≤ l.0) (sym none) l.6,
    )
