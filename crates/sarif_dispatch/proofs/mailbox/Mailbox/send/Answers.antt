use Rattle.sarif_dispatch.proofs.Deliveries.{sends}
use Rattle.sarif_dispatch.proofs.mailbox.Mailbox.send.Goals as goal

pub push_as-requires-clause-rule : goal.push_as-requires-clause-rule
push_as-requires-clause-rule g c = (sends _ _ _ _ _ _ c.args.post.now.own, λ items views h at. tt)
