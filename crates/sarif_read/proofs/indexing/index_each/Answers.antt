use Rattle.std.proofs.Common.{rules, ◌≡◌, ◌+◌, ◌<◌, length, [], ◌++◌, ◌∷◌, map, drop, sym, ap, ◌∙◌, arith, Ok, Err}
use Rattle.std.proofs.lemmas.Grind.{common_steps}
use Rattle.sarif_read.specs.Reading as said
use Rattle.sarif_model.specs.Run.{results_of}
use Rattle.sarif_read.specs.Internal.Listed.{value_at}
use Rattle.sarif_read.proofs.CheckEach.{goes_on, stops, at_end}
use Rattle.sarif_read.proofs.IndexEach.{front, total_push, made_push, refused}
use Rattle.sarif_read.proofs.indexing.index_each.Goals as goal

pub returns-in-Err-clause-err : goal.returns-in-Err-clause-err
returns-in-Err-clause-err c =
    λ e is.
    let i = c.loop-node.node-index in
    let node = c.node-item.result in
    let below : i < length c.args.nodes.now = omega arith in
    let of_run = refused c.loop-node.number c.in-Err.refusal e (sym c.refused_at.ensures ∙ is) in
    let rest = front c.args.nodes.now i node below c.node-item.is in
    let stopped = stops c.args.allow_external c.loop-node.number c.loop-node.before of_run.0 (value_at node)
    (map value_at (drop (i + 1) c.args.nodes.now)) (sym (c.in-Err.ensures.err of_run.0 of_run.1)) in
    sym c.loop-node.invariant.told
    ∙ ap (λ ns. said.check_each c.args.allow_external c.loop-node.number c.loop-node.before (map value_at ns)) rest
    ∙ stopped ∙ ap Err of_run.2

pub loop-node-preserved : goal.loop-node-preserved
loop-node-preserved c =
    let i = c.loop-node.node-index in
    let node = c.node-item.result in
    let below : i < length c.args.nodes.now = omega arith in
    let rest = front c.args.nodes.now i node below c.node-item.is in
    let same : c.len.result ≡ length (results_of (value_at node)) = c.len.ensures.count ∙ ap (λ d. length (results_of d)) c.in-Ok.ensures.ok in
    let told : said.check_run c.args.allow_external c.loop-node.before (value_at node) ≡ Ok (c.loop-node.before + c.len.result) =
    c.in-Ok.ensures.checked ∙ ap (λ n. Ok (c.loop-node.before + n)) (sym same) in
    let on = goes_on c.args.allow_external c.loop-node.number c.loop-node.before (c.loop-node.before + c.len.result) (value_at node)
    (map value_at (drop (i + 1) c.args.nodes.now)) (sym told) in
    let pushed : c.push.new.self.items ≡ c.loop-node.runs.items ++ c.in-Ok.run' ∷ [] = search rules in
    let more = total_push c.loop-node.runs.items c.in-Ok.run' in
    record {
      number = omega arith;
      few = rw same c.in-Ok.ensures.few;
      sum = rw (pushed, more) (omega (arith, c.len.ensures.count, c.loop-node.invariant.sum));
      runs =
          rw pushed
          (made_push c.loop-node.runs.items c.in-Ok.run' c.args.nodes.now i node c.loop-node.invariant.runs
          c.in-Ok.ensures.ok below c.node-item.is);
      ordered = (rw rest at c.loop-node.invariant.ordered).1;
      told = on ∙ ap (λ ns. said.check_each c.args.allow_external c.loop-node.number c.loop-node.before (map value_at ns)) (sym rest)
          ∙ c.loop-node.invariant.told;
    }

pub returns-clause-checked : goal.returns-clause-checked
returns-clause-checked c =
    let rest : drop c.loop-node.node-index c.args.nodes.now ≡ [] = grind (arith, common_steps) in
    sym c.loop-node.invariant.told
    ∙ ap (λ ns. said.check_each c.args.allow_external c.loop-node.number c.loop-node.before (map value_at ns)) rest
    ∙ at_end c.args.allow_external c.loop-node.number c.loop-node.before
