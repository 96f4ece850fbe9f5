use Rattle.std.proofs.Common.{◌≡◌, ◌<◌, true, false, ◌||◌, sym, ap, ◌∙◌, arith, rules}
use Rattle.json_parts.specs.Indexed.{json_at}
use Rattle.json_parts.specs.Internal.Walking.{depth_of}
use Rattle.json_texts.specs.Whole.{is_fractional, any_fractional}
use Rattle.json_texts.proofs.Standing.{known, a_number, not_fractional}
use Rattle.json_texts.proofs.fraction.+fractions.Goals as goal

pub returns-in-Some : goal.returns-in-Some
returns-in-Some t c =
    let ts = c.args.element.now in
    c.is_fraction.ensures ∙ ap is_fractional (sym (a_number (json_at ts) c.in-Some.text.now (c.in-Some.ensures (json_at ts) (known ts c.requires).begins)))

pub returns-in_default-items_in : goal.returns-in_default-items_in
returns-in_default-items_in t c =
    let ts = c.args.element.now in
    not_fractional (json_at ts) (c.in_default.ensures (json_at ts) (known ts c.requires).begins) c.in_default-items_in.ensures

pub is_fractional-requires : goal.is_fractional-requires
is_fractional-requires t c =
    let l = c.items.invariant in
    let f = c.in-Some-take_item.ensures.value l.0 l.1 l.2 in
    let d : depth_of c.in-Some-take_item.item < depth_of c.args.element.now = omega (arith, l.3, f.2) in
    let h : depth_of c.args.element.now ≡ t = search rules in
    (omega (arith, d, h), c.in-Some-take_item.ensures.writable)

pub returns-then-is_fractional : goal.returns-then-is_fractional
returns-then-is_fractional t c =
    let l = c.items.invariant in
    let f = c.in-Some-take_item.ensures.value l.0 l.1 l.2 in
    let yes : is_fractional (json_at c.in-Some-take_item.item) ≡ true = sym c.if-is_fractional.ensures in
    sym (l.4 ∙ ap any_fractional f.1 ∙ ap (λ b. b || any_fractional f.0) yes)

pub items-preserved : goal.items-preserved
items-preserved t c =
    let l = c.items.invariant in
    let f = c.in-Some-take_item.ensures.value l.0 l.1 l.2 in
    let none : is_fractional (json_at c.in-Some-take_item.item) ≡ false = sym c.if-is_fractional.ensures in
    (l.0, f.0, f.3, l.3, l.4 ∙ ap any_fractional f.1 ∙ ap (λ b. b || any_fractional f.0) none)

pub returns : goal.returns
returns t c =
    let l = c.items.invariant in
    let over = c.in_default-take_item.ensures.value l.0 l.1 l.2 in
    sym (l.4 ∙ ap any_fractional over)
