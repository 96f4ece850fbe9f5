use Rattle.std.proofs.Common.{◌≡◌, ◌≤◌, ◌∷◌, ◌++◌, true, false, max, set, take, drop, sym, ap, ◌∙◌, subst, arith}
use Rattle.json_parts.specs.Internal.Walking.{depth_of}
use Rattle.json_texts.specs.Internal.Walking.{AreWritable, members_at, nesting, place, is_there}
use Rattle.json_texts.proofs.Orders.{members_set, members_inserted, writable_set, writable_inserted, nesting_set, nesting_inserted}
use Rattle.json_texts.proofs.sorting.put_member.Goals as goal

pub returns-then-is_there-clause-put : goal.returns-then-is_there-clause-put
returns-then-is_there-clause-put c =
    let m = c.args.member in
    let ls = c.args.list.now.items in
    let yes : c.place_of-at.result.1 ≡ true = grind arith in
    let at : c.place_of-at.result.0 ≡ place m.name.now ls = c.place_of-at.ensures.place ∙ ap (place m.name.now) c.as_slice.ensures.value in
    let there : is_there m.name.now ls ≡ true = ap (is_there m.name.now) (sym c.as_slice.ensures.value) ∙ sym c.place_of-at.ensures.there ∙ yes in
    ap (λ i. members_at (set ls i m)) at ∙ members_set m ls there

pub returns-then-is_there-clause-writable : goal.returns-then-is_there-clause-writable
returns-then-is_there-clause-writable c = writable_set c.place_of-at.result.0 c.args.member c.args.list.now.items c.requires.writable.0 c.requires.writable.1

pub returns-then-is_there-clause-nested : goal.returns-then-is_there-clause-nested
returns-then-is_there-clause-nested c = nesting_set c.place_of-at.result.0 c.args.member c.args.list.now.items

pub returns-in_ok-insert-clause-put : goal.returns-in_ok-insert-clause-put
returns-in_ok-insert-clause-put c =
    let m = c.args.member in
    let ls = c.args.list.now.items in
    let none : c.place_of-at.result.1 ≡ false = grind arith in
    let at : c.place_of-at.result.0 ≡ place m.name.now ls = c.place_of-at.ensures.place ∙ ap (place m.name.now) c.as_slice.ensures.value in
    let away : is_there m.name.now ls ≡ false = ap (is_there m.name.now) (sym c.as_slice.ensures.value) ∙ sym c.place_of-at.ensures.there ∙ none in
    ap members_at c.in_ok-insert.ensures.items ∙ ap (λ i. members_at (take i ls ++ m ∷ drop i ls)) at ∙ members_inserted m ls away

pub returns-in_ok-insert-clause-writable : goal.returns-in_ok-insert-clause-writable
returns-in_ok-insert-clause-writable c =
    subst AreWritable (sym c.in_ok-insert.ensures.items)
    (writable_inserted c.place_of-at.result.0 c.args.member c.args.list.now.items c.requires.writable.0 c.requires.writable.1)

pub returns-in_ok-insert-clause-nested : goal.returns-in_ok-insert-clause-nested
returns-in_ok-insert-clause-nested c =
    subst (λ xs. nesting xs ≤ max (depth_of c.args.member.value) (nesting c.args.list.now.items)) (sym c.in_ok-insert.ensures.items)
    (nesting_inserted c.place_of-at.result.0 c.args.member c.args.list.now.items)
