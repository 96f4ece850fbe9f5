use Rattle.std.proofs.Common.{◌∷◌, ◌++◌, [], map, sym, ap, ◌∙◌, arith, append_assoc}
use Rattle.sarif_dispatch.specs.declared.mailbox.rule.View.TheVariants.{Taker}
use Rattle.sarif_dispatch.specs.Delivery.{taken_in, made_in, settled_in}
use Rattle.sarif_dispatch.specs.Ends.{taken_by, returned}
use Rattle.sarif_dispatch.proofs.Deliveries.{takes}
use Rattle.sarif_dispatch.proofs.Settlements.{covers, settles_at, settles_at_none, whole}
use Rattle.sarif_dispatch.proofs.Tallies.{none_left, more_left}
use Rattle.sarif_dispatch.proofs.mailbox.Mailbox.settle.Goals as goal

pub len_as-count-requires-clause-rule : goal.len_as-count-requires-clause-rule
len_as-count-requires-clause-rule g c = (takes _ _ _ _ _ c.take_back.ensures.view).1

pub pop_as-requires-clause-rule : goal.pop_as-requires-clause-rule
pop_as-requires-clause-rule g c = takes _ _ _ _ _ c.loop.invariant.1

pub unreachable-requires : goal.unreachable-requires
unreachable-requires g c =
    let t = taken_by c.args.desk in
    let n = c.args.self.senders in
    let s = map returned c.args.posts.items in
    let held = c.len_as-count.ensures.rule.1 in
    let first = settles_at _ t n s held.0 (c.take_back.ensures.view ∙ ap (λ m. Taker t m s) c.requires.desk.made) held.2 in
    let now = settles_at_none _ (t ++ c.loop.left.items) n s c.loop.invariant.1 c.in_default-pop_as.ensures.rule.1 in
    more_left t c.loop.left.items held.0 n s (covers c.args.self c.args.posts.items c.requires.posts) first now (omega (arith, held.1, c.loop.invariant.2))

pub loop-preserved : goal.loop-preserved
loop-preserved g c =
    let t = taken_by c.args.desk in
    let n = c.args.self.senders in
    let s = map returned c.args.posts.items in
    let was = c.loop.invariant in
    let rule = c.in-Some.ensures.rule in
    let queue = c.in-Some.ensures.queue in (
      (queue.0 ∙ was.0.0, queue.2 ∙ was.0.1),
      rule
          ∙ ap (λ v. Taker (taken_in v ++ c.in-Some.parcel ∷ []) (made_in v) (settled_in v)) was.1
          ∙ ap (λ l. Taker l n s) (append_assoc t c.loop.left.items (c.in-Some.parcel ∷ []) ∙ ap (λ l. t ++ l) (sym c.push_reserved.ensures.items)),
      omega arith,
      omega arith,
    )

pub learn_as-requires-clause-rule : goal.learn_as-requires-clause-rule
learn_as-requires-clause-rule g c = (takes _ _ _ _ _ c.loop.invariant.1).1

pub returns-clause-whole : goal.returns-clause-whole
returns-clause-whole g c =
    let t = taken_by c.args.desk in
    let n = c.args.self.senders in
    let s = map returned c.args.posts.items in
    let held = c.len_as-count.ensures.rule.1 in
    let first = settles_at _ t n s held.0 (c.take_back.ensures.view ∙ ap (λ m. Taker t m s) c.requires.desk.made) held.2 in
    let last = c.learn_as.ensures.rule in
    let then = settles_at _ (t ++ c.loop.left.items) n s last.0 c.loop.invariant.1 last.1 in
    whole c.args.self c.args.posts.items (t ++ c.loop.left.items)
    (none_left t c.loop.left.items held.0 last.0 n s (covers c.args.self c.args.posts.items c.requires.posts) first then
    (omega (arith, held.1, c.loop.invariant.2)))
