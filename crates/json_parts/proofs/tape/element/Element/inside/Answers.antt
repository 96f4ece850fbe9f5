use Rattle.std.proofs.Common.{◌≡◌, ◌+◌, ◌<◌, map, length, drop, sym, ap, ◌∙◌, subst, arith, lt_of_not-le}
use Rattle.std.proofs.lemmas.List.{drop_all, drop-drop, length-map}
use Rattle.json.specs.Tape.{node_token}
use Rattle.json.specs.Find.{BeginsWith}
use Rattle.json.proofs.Found.{not_empty}
use Rattle.json_parts.proofs.tape.element.Element.inside.Goals as goal

pub returns : goal.returns
returns c j begins =
    let a = c.self.inside in
    let all = map node_token a.nodes.now in
    let within : a.at < length a.nodes.now =
    lt_of_not-le
    (λ h. not_empty j
    (subst (λ ts. BeginsWith ts j) (sym c.self.view_is ∙ drop_all a.at all (omega (arith, length-map a.nodes.now node_token))) begins)) in
    let next : c.saturating_add.result ≡ a.at + 1 = omega arith in
    ap (λ k. drop k all) next ∙ sym (drop-drop 1 a.at all) ∙ ap (drop 1) c.self.view_is
