use Rattle.std.proofs.Common.{suc, sym, ap, ◌∙◌, arith}
use Rattle.std.specs.Prelude.{slice_get}
use Rattle.std.specs.Vec.Iter.{into_iter_items}
use Rattle.sarif_dispatch.specs.Hands.{joined}
use Rattle.sarif_dispatch.proofs.DealSteps.{joins}
use Rattle.sarif_dispatch.proofs.deal.take_back.Goals as goal

pub join_seat-requires : goal.join_seat-requires
join_seat-requires c =
    let was = c.loop-hand.invariant in
    let hand = c.in-Some.hand in
    let fits = was.6 0 hand (ap (λ l. slice_get l 0) c.in-Some.ensures.steps.0) in (
      was.2.table,
      fits.table,
      hand.free,
      c.requires.free.2,
      joins c.args.claims.now.shared.key c.loop-hand.all.id c.loop-hand.all.me.0 hand.seat.id hand.seat.me.0 was.4,
    )

pub loop-hand-preserved : goal.loop-hand-preserved
loop-hand-preserved c =
    let was = c.loop-hand.invariant in
    let hand = c.in-Some.hand in
    let joined_is = c.join_seat.ensures in
    let steps = c.in-Some.ensures.steps in
    let view = ap (λ m. m.0) joined_is.2 in (
      tt,
      tt,
      record {
        table = joined_is.0 ∙ was.2.table;
        runs = ap (λ v. v.runs) view ∙ was.2.runs;
        hands = ap (λ v. v.hands) view ∙ was.2.hands;
      },
      ap (λ m. m.1) joined_is.2 ∙ was.3,
      (let parts = ap (λ v. v.parts) view in let some = was.4 in omega arith),
      was.5 ∙ ap (joined c.loop-hand.all.me.0) steps.0 ∙ ap (λ v. joined v (into_iter_items c.next.new.self)) (sym view),
      λ i h at. was.6 (suc i) h (ap (λ l. slice_get l (suc i)) steps.0 ∙ at),
    )
