use Rattle.std.proofs.Common.{drop, sym, ap, ◌∙◌, subst, arith}
use Rattle.json.specs.Find.{BeginsWith}
use Rattle.json_parts.proofs.Nodes.{is_null_node, null_here}
use Rattle.json_parts.proofs.Nodes.{other_node}
use Rattle.json_parts.proofs.tape.element.Element.is_null.Goals as goal

pub returns-in-Null : goal.returns-in-Null
returns-in-Null c j begins =
    ap is_null_node (sym c.in-Null.is) ∙ null_here c.node.result (drop 1 c.args.self.now) j (subst (λ ts. BeginsWith ts j) (c.node.ensures j begins) begins)

pub returns-in_default : goal.returns-in_default
returns-in_default c j begins =
    other_node c.node.result (λ e. grind arith)
    ∙ null_here c.node.result (drop 1 c.args.self.now) j (subst (λ ts. BeginsWith ts j) (c.node.ensures j begins) begins)
