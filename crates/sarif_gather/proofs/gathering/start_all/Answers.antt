use Rattle.std.proofs.Common.{◌∷◌, [], suc, length, sym, ap, ◌∙◌, subst, ⊎_elim, arith}
use Rattle.std.specs.Prelude.{slice_get}
use Rattle.std.proofs.lemmas.List.{length_push}
use Rattle.sarif_dispatch.specs.Ends.{IsNewPost}
use Rattle.sarif_dispatch.proofs.Places.{slice_get_push, slice_get_last, slice_get_longer}
use Rattle.sarif_gather.proofs.gathering.start_all.Goals as goal

pub start_one-started-requires-clause-hand : goal.start_one-started-requires-clause-hand
start_one-started-requires-clause-hand g c κs within =
    let rest = c.pop.new.self.items in
    c.loop-post.invariant.6 (length rest) c.in-Some-pop.hand
    (ap (λ l. slice_get l (length rest)) c.in-Some-pop.ensures.items ∙ slice_get_last rest c.in-Some-pop.hand)

pub loop-post-preserved : goal.loop-post-preserved
loop-post-preserved g c =
    let was = c.loop-post.invariant in
    let post = c.in-Some.post in
    let yielded = c.loop-post.yielded in
    let steps = c.in-Some.ensures.steps.0 in
    let longer = length_push yielded post in
    let fewer = ap length steps in
    let popped = c.in-Some-pop.ensures.len in
    let mine = was.5 0 post (ap (λ l. slice_get l 0) steps) in
    let made = c.in-Some-started.ensures in (
      tt,
      tt,
      omega arith,
      omega arith,
      omega arith,
      λ i p at. subst (λ n. IsNewPost c.args.place.now.mailbox.now n p) (omega (arith, longer)) (was.5 (suc i) p (ap (λ l. slice_get l (suc i)) steps ∙ at)),
      λ i hand at. was.6 i hand
          (ap (λ l. slice_get l i) c.in-Some-pop.ensures.items ∙ slice_get_longer c.pop.new.self.items (c.in-Some-pop.hand ∷ []) i hand at),
      λ k h at. ⊎_elim (λ e. was.7 k h e)
          (λ e. (
            ap (λ q. q.promise.place.now) (sym e.1) ∙ made.0,
            ap (λ q. q.promise.worker) (sym e.1) ∙ made.1 ∙ mine.number ∙ omega (arith, e.0, was.2),
          ))
          (slice_get_push c.loop-post.handles.items c.in-Some-started.handle k h (ap (λ l. slice_get l k) (sym c.push_reserved.ensures.items) ∙ at)),
    )
