use Rattle.std.proofs.Common.{◌∷◌, ◌++◌, [], sym, ap, ◌∙◌, append_assoc, suc}
use Rattle.std.specs.Prelude.{slice_get}
use Rattle.std.proofs.lemmas.List.{map_push}
use Rattle.std.specs.Vec.Iter.{into_iter_items}
use Rattle.crossbeam_queue.specs.Passes.{view}
use Rattle.sarif_dispatch.specs.declared.mailbox.rule.View.TheVariants.{Taker}
use Rattle.sarif_dispatch.specs.Delivery.{taken_in, made_in, settled_in, number_in, sent_in}
use Rattle.sarif_dispatch.specs.Ends.{returned}
use Rattle.sarif_dispatch.proofs.Deliveries.{returns}
use Rattle.sarif_dispatch.proofs.mailbox.settling.take_back.Goals as goal

pub absorb-requires-clause-rule : goal.absorb-requires-clause-rule
absorb-requires-clause-rule g c = returns _ _ _ _ _ _ _ _ _ c.loop-post.invariant.3 c.in-Some.post.own

pub loop-post-preserved : goal.loop-post-preserved
loop-post-preserved g c =
    let was = c.loop-post.invariant in
    let post = c.in-Some.post in
    let steps = c.in-Some.ensures.steps in (
      tt,
      tt,
      (c.absorb.ensures.queue.0 ∙ was.2.0, c.absorb.ensures.queue.2 ∙ was.2.1),
      c.absorb.ensures.rule
          ∙ (λ i. Taker (taken_in (was.3 i)) (made_in (was.3 i)) (settled_in (was.3 i) ++ (number_in (post.own i), sent_in (view post.pass)) ∷ []))
          ∙ ap (λ l. Taker (taken_in (view c.args.pass.now)) (made_in (view c.args.pass.now)) l) (sym (map_push returned c.loop-post.yielded post)),
      was.4 ∙ ap (λ l. c.loop-post.yielded ++ l) steps.0 ∙ sym (append_assoc c.loop-post.yielded (post ∷ []) (into_iter_items c.next.new.self)),
      λ i p at. was.5 (suc i) p (ap (λ l. slice_get l (suc i)) steps.0 ∙ at),
    )
