use Rattle.std.proofs.Common.{◌≡◌, ◌∙◌, ◌++◌, ◌∷◌, ◌+◌, drop, map, ap, sym}
use Rattle.std.proofs.lemmas.List.{drop_more}
use Rattle.sarif_known.specs.Chosen.{all_chosen}
use Rattle.sarif_known.specs.Internal.Groups.{texts_of}
use Rattle.sarif_known.specs.Order.{once_each}
use Rattle.sarif_known.proofs.Grouped.{once_step, keys_put}
use Rattle.sarif_known.proofs.order.add_tools.Goals as goal

pub loop-run-preserved : goal.loop-run-preserved
loop-run-preserved c =
    let these : drop c.loop-run.run-index c.args.runs.now ≡ c.run-item.result ∷ drop (c.loop-run.run-index + 1) c.args.runs.now =
    drop_more c.args.runs.now c.loop-run.run-index c.run-item.result c.loop-run-test.true
    ∙ ap (λ x. x ∷ drop (c.loop-run.run-index + 1) c.args.runs.now) (sym c.run-item.is) in
    let so_far =
    ap (λ rs. texts_of c.loop-run.tools.keys ++ once_each (texts_of c.loop-run.tools.keys) (map (λ run. run.tool) (all_chosen rs)))
    (sym these) ∙ c.loop-run.invariant in
    once_step (texts_of c.loop-run.tools.keys) (texts_of c.insert.new.self.keys)
    (map (λ run. run.tool) (all_chosen (drop (c.loop-run.run-index + 1) c.args.runs.now)))
    (texts_of c.args.tools.now.keys ++ once_each (texts_of c.args.tools.now.keys) (map (λ run. run.tool) (all_chosen c.args.runs.now)))
    c.run-item.result.tool.now
    (keys_put c.loop-run.tools.keys c.insert.new.self.keys c.run-item.result.tool c.in_ok-insert.ensures.keys) so_far
