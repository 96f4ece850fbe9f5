use Rattle.std.proofs.Common.{◌∷◌, drop, sym, ap, ◌∙◌, subst, arith}
use Rattle.json.specs.Json.{object}
use Rattle.json.specs.Tape.{node_token}
use Rattle.json.specs.Find.{BeginsWith, InMembers}
use Rattle.json.proofs.Found.{opened}
use Rattle.json_parts.proofs.Nodes.{no_object, an_object}
use Rattle.json_parts.proofs.tape.element.Element.members.Goals as goal

pub returns-in-Object : goal.returns-in-Object
returns-in-Object c j begins =
    let rest = drop 1 c.args.self.now in
    let shape = an_object c.in-Object.field-0 rest j
    (subst (λ ts. BeginsWith ts j) (c.node.ensures j begins ∙ ap (λ n. node_token n ∷ rest) c.in-Object.is) begins) in (
      shape.0,
      shape.1,
      subst (λ ts. InMembers ts shape.0) (sym (c.inside.ensures j begins))
          (opened c.args.self.now (object shape.0) (subst (BeginsWith c.args.self.now) shape.1 begins)),
    )

pub returns-in_default : goal.returns-in_default
returns-in_default c j begins =
    no_object c.node.result (drop 1 c.args.self.now) j (λ x e. grind arith) (subst (λ ts. BeginsWith ts j) (c.node.ensures j begins) begins)
