use Rattle.std.proofs.Common.{◌∷◌, drop, sym, ap, ◌∙◌, subst, arith}
use Rattle.json.specs.Json.{array}
use Rattle.json.specs.Tape.{node_token}
use Rattle.json.specs.Find.{BeginsWith, InItems}
use Rattle.json.proofs.Found.{opened}
use Rattle.json_parts.proofs.Nodes.{no_array, an_array}
use Rattle.json_parts.proofs.tape.element.Element.items.Goals as goal

pub returns-in-Array : goal.returns-in-Array
returns-in-Array c j begins =
    let rest = drop 1 c.args.self.now in
    let shape = an_array c.in-Array.field-0 rest j
    (subst (λ ts. BeginsWith ts j) (c.node.ensures j begins ∙ ap (λ n. node_token n ∷ rest) c.in-Array.is) begins) in (
      shape.0,
      shape.1,
      subst (λ ts. InItems ts shape.0) (sym (c.inside.ensures j begins))
          (opened c.args.self.now (array shape.0) (subst (BeginsWith c.args.self.now) shape.1 begins)),
    )

pub returns-in_default : goal.returns-in_default
returns-in_default c j begins =
    no_array c.node.result (drop 1 c.args.self.now) j (λ x e. grind arith) (subst (λ ts. BeginsWith ts j) (c.node.ensures j begins) begins)
