use Rattle.std.proofs.Common.{◌≡◌, ◌<◌, true, false, ◌||◌, sym, ap, ◌∙◌, arith, rules}
use Rattle.serde_json.specs.View.{number_view}
use Rattle.json_parts.specs.Indexed.{data_of}
use Rattle.json_parts.specs.Stripping.{is_fractional, any_fractional}
use Rattle.json_parts.specs.Internal.Walking.{depth_of}
use Rattle.json_parts.proofs.Fractions.{fraction_of_number, no_fraction}
use Rattle.json_parts.proofs.node.Node.+fractions.Goals as goal

pub returns-in-Some : goal.returns-in-Some
returns-in-Some t c = c.is_f64.ensures ∙ fraction_of_number (data_of c.args.self.now) (number_view c.in-Some.number) c.in-Some.ensures

pub returns-in_default-elements : goal.returns-in_default-elements
returns-in_default-elements t c = no_fraction (data_of c.args.self.now) c.in_default.ensures c.in_default-elements.ensures

pub is_fractional-requires : goal.is_fractional-requires
is_fractional-requires t c =
    let l = c.items.invariant in
    let f = c.in-Some-next_element.ensures.value l.0 l.1 l.2 in
    let d : depth_of c.in-Some-next_element.element < depth_of c.args.self.now = omega (arith, l.3, f.2) in
    let h : depth_of c.args.self.now ≡ t = search rules in
    (omega (arith, d, h), tt)

pub returns-then-is_fractional : goal.returns-then-is_fractional
returns-then-is_fractional t c =
    let l = c.items.invariant in
    let f = c.in-Some-next_element.ensures.value l.0 l.1 l.2 in
    let yes : is_fractional (data_of c.in-Some-next_element.element) ≡ true = sym c.if-is_fractional.ensures in
    sym (l.4 ∙ ap any_fractional f.1 ∙ ap (λ b. b || any_fractional f.0) yes)

pub items-preserved : goal.items-preserved
items-preserved t c =
    let l = c.items.invariant in
    let f = c.in-Some-next_element.ensures.value l.0 l.1 l.2 in
    let no : is_fractional (data_of c.in-Some-next_element.element) ≡ false = sym c.if-is_fractional.ensures in
    (l.0, f.0, f.3, l.3, l.4 ∙ ap any_fractional f.1 ∙ ap (λ b. b || any_fractional f.0) no)

pub returns : goal.returns
returns t c =
    let l = c.items.invariant in
    let over = c.in_default-next_element.ensures.value l.0 l.1 l.2 in
    sym (l.4 ∙ ap any_fractional over)
