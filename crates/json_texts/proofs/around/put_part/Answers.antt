use Rattle.std.proofs.Common.{◌≡◌, ◌∷◌, ◌++◌, true, false, set, take, drop, sym, ap, ap₂, ◌∙◌, subst, arith}
use Rattle.json_texts.specs.Internal.Parts.{AreParts, name_of, named_at, place, is_there}
use Rattle.json_texts.proofs.Parts.{part_set, part_inserted, parts_set, parts_inserted}
use Rattle.json_texts.proofs.around.put_part.Goals as goal

pub returns-then-is_there-clause-put : goal.returns-then-is_there-clause-put
returns-then-is_there-clause-put c =
    let p = c.args.part in
    let ps = c.args.list.now.items in
    let keeps = c.args.keeps_numbers in
    let yes : c.place_of-at.result.1 ≡ true = grind arith in
    let at : c.place_of-at.result.0 ≡ place (name_of p) ps = c.place_of-at.ensures.place ∙ ap₂ place c.name_of.ensures c.as_slice.ensures.value in
    let there : is_there (name_of p) ps ≡ true =
    ap₂ is_there (sym c.name_of.ensures) (sym c.as_slice.ensures.value) ∙ sym c.place_of-at.ensures.there ∙ yes in
    ap (λ i. named_at keeps (set ps i p)) at ∙ part_set keeps p ps there

pub returns-then-is_there-clause-writable : goal.returns-then-is_there-clause-writable
returns-then-is_there-clause-writable c = parts_set c.place_of-at.result.0 c.args.part c.args.list.now.items c.requires.writable.0 c.requires.writable.1

pub returns-in_ok-insert-clause-put : goal.returns-in_ok-insert-clause-put
returns-in_ok-insert-clause-put c =
    let p = c.args.part in
    let ps = c.args.list.now.items in
    let keeps = c.args.keeps_numbers in
    let none : c.place_of-at.result.1 ≡ false = grind arith in
    let at : c.place_of-at.result.0 ≡ place (name_of p) ps = c.place_of-at.ensures.place ∙ ap₂ place c.name_of.ensures c.as_slice.ensures.value in
    let away : is_there (name_of p) ps ≡ false =
    ap₂ is_there (sym c.name_of.ensures) (sym c.as_slice.ensures.value) ∙ sym c.place_of-at.ensures.there ∙ none in
    ap (named_at keeps) c.in_ok-insert.ensures.items ∙ ap (λ i. named_at keeps (take i ps ++ p ∷ drop i ps)) at ∙ part_inserted keeps p ps away

pub returns-in_ok-insert-clause-writable : goal.returns-in_ok-insert-clause-writable
returns-in_ok-insert-clause-writable c =
    subst AreParts (sym c.in_ok-insert.ensures.items)
    (parts_inserted c.place_of-at.result.0 c.args.part c.args.list.now.items c.requires.writable.0 c.requires.writable.1)
