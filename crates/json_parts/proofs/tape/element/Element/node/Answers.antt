use Rattle.std.proofs.Common.{◌∷◌, map, drop, get_or, sym, ap, ◌∙◌, subst, arith}
use Rattle.std.proofs.lemmas.List.{drop_all, drop-drop, length-map}
use Rattle.json.specs.Tape.{node_token}
use Rattle.json.specs.Find.{BeginsWith}
use Rattle.json.specs.declared.tape.Node.TheVariants.{Object}
use Rattle.json.proofs.Found.{not_empty}
use Rattle.json_parts.proofs.Nodes.{here}
use Rattle.json_parts.proofs.tape.element.Element.node.Goals as goal

pub returns-then-self : goal.returns-then-self
returns-then-self c j begins =
    let a = c.self.inside in
    let all = map node_token a.nodes.now in
    sym c.self.view_is ∙ here a.nodes.now a.at (Object 0) (omega arith)
    ∙ ap (λ ts. node_token (get_or a.nodes.now a.at (Object 0)) ∷ ts) (sym (drop-drop 1 a.at all) ∙ ap (drop 1) c.self.view_is)

pub returns-else-self : goal.returns-else-self
returns-else-self c j begins =
    let a = c.self.inside in
    absurd (not_empty j (subst (λ ts. BeginsWith ts j) (sym c.self.view_is ∙ drop_all a.at _ (omega (arith, length-map a.nodes.now node_token))) begins))
