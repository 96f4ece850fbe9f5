use Rattle.std.proofs.Common.{map, get_or, sym, ap, ◌∙◌, subst, arith, ⊎_elim}
use Rattle.std.proofs.lemmas.List.{get_or_default}
use Rattle.json.specs.Json.{value}
use Rattle.json.specs.Tape.{node_token, LinkAt}
use Rattle.json.specs.declared.tape.Node.TheVariants.{Object, Null}
use Rattle.json_parts.proofs.Nodes.{here, one_token, by_link}
use Rattle.json_parts.proofs.tape.element.after.Goals as goal

pub returns-in_default : goal.returns-in_default
returns-in_default c =
    let ns = c.args.nodes.now in
    let n = get_or ns c.args.i (Object 0) in
    record {
      value = λ depth j rest e. one_token n _ j depth rest (λ a z. grind arith) (λ a z. grind arith)
          (ap (value depth) (sym (here ns c.args.i (Object 0) c.requires.0)) ∙ e);
      later = omega arith;
    }

pub returns-in-Object-clause-value : goal.returns-in-Object-clause-value
returns-in-Object-clause-value c depth j rest e =
    let ns = c.args.nodes.now in
    let all = map node_token ns in
    let end = c.in-Object.end in
    let linked = subst (LinkAt all c.args.i) (get_or_default ns c.args.i Null (Object 0) c.requires.0) (c.requires.1 c.args.i (omega arith) c.requires.0) in
    by_link all c.args.i end depth j rest (⊎_elim (λ is. subst (LinkAt all c.args.i) is linked) (λ is. subst (LinkAt all c.args.i) is linked) c.in-Object.is) e

pub returns-in-Object-2-clause-value : goal.returns-in-Object-2-clause-value
returns-in-Object-2-clause-value c depth j rest e =
    let ns = c.args.nodes.now in
    let all = map node_token ns in
    let end = c.in-Object.end in
    let linked = subst (LinkAt all c.args.i) (get_or_default ns c.args.i Null (Object 0) c.requires.0) (c.requires.1 c.args.i (omega arith) c.requires.0) in
    by_link all c.args.i end depth j rest (⊎_elim (λ is. subst (LinkAt all c.args.i) is linked) (λ is. subst (LinkAt all c.args.i) is linked) c.in-Object.is) e
