use Rattle.std.proofs.Common.{◌≡◌, ap, ◌∙◌, cond, arith}
use Rattle.sarif_dispatch.proofs.DealSteps.{draws}
use Rattle.sarif_dispatch.proofs.deal.state.Deal.draw.Goals as goal

pub fetch_add-found-requires : goal.fetch_add-found-requires
fetch_add-found-requires c =
    let hand = c.args.hand.now in
    let unmarked : hand.seat.me.0.marks ≡ 0 = hand.marks ∙ ap (λ b. cond b 1 0) c.if-hand.false in
    let one = hand.one in
    (c.requires.table, c.args.self.now.word, draws c.args.self.now.claims.shared.key _ hand.seat.id hand.seat.me (omega arith) (omega arith))
