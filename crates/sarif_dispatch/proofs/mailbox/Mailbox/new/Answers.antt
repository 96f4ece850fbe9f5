use Rattle.std.proofs.Common.{◌≡◌, ◌+◌, ℕ, [], sym, ap, ◌∙◌, subst, ⊎_elim, arith}
use Rattle.std.specs.Prelude.{slice_get}
use Rattle.crossbeam_queue.specs.Passes.{view, IsPassOf}
use Rattle.sarif_dispatch.specs.declared.mailbox.ends.Post.{Post}
use Rattle.sarif_dispatch.specs.declared.mailbox.rule.View.TheVariants.{Taker, Sender}
use Rattle.sarif_dispatch.specs.Delivery.{taken_in, made_in, settled_in}
use Rattle.sarif_dispatch.proofs.Deliveries.{begins, enlists}
use Rattle.sarif_dispatch.proofs.Places.{slice_get_push}
use Rattle.sarif_dispatch.proofs.mailbox.Mailbox.new.Goals as goal

pub ruled-requires-clause-rule : goal.ruled-requires-clause-rule
ruled-requires-clause-rule g c = begins

pub another-requires-clause-rule : goal.another-requires-clause-rule
another-requires-clause-rule g c = enlists _ _ _ _ _ c.loop-number.invariant.3

pub loop-number-preserved : goal.loop-number-preserved
loop-number-preserved g c =
    let line = c.in_ok-line.line in
    let was = c.loop-number.invariant in
    let queue = c.another.ensures.queue in
    let rule = c.another.ensures.rule in
    let made = c.new.ensures.0 in
    let F : ℕ → Post g.row.P.Denot → Type 0 = λ k post. IsPassOf line post.pass × (view post.pass ≡ Sender k []) × (post.number ≡ k) in
    let post : F c.loop-number.number c.new.result = (
      (ap (λ p. p.table_id) made ∙ queue.1.0, ap (λ p. p.me.1) made ∙ queue.1.1),
      ap view made ∙ rule.1 ∙ ap (λ v. Sender (made_in v) []) was.3,
      c.new.ensures.1,
    ) in (
      omega arith,
      c.push_reserved.ensures.capacity ∙ was.1,
      (queue.0.0 ∙ was.2.0, queue.0.2 ∙ was.2.1),
      rule.0 ∙ ap (λ v. Taker (taken_in v) (made_in v + 1) (settled_in v)) was.3,
      λ k p at. ⊎_elim (λ h. was.4 k p h)
          (λ h. subst (λ q. F k q) h.1
          (let number : c.loop-number.number ≡ k = (let len = was.0 in omega (arith, h.0)) in subst (λ n. F n c.new.result) number post))
          (slice_get_push c.loop-number.posts.items c.new.result k p (ap (λ l. slice_get l k) (sym c.push_reserved.ensures.items) ∙ at)),
    )
