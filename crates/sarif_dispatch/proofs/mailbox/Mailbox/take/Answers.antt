use Rattle.sarif_dispatch.proofs.Deliveries.{takes}
use Rattle.sarif_dispatch.proofs.mailbox.Mailbox.take.Goals as goal

pub pop_as-taken-requires-clause-rule : goal.pop_as-taken-requires-clause-rule
pop_as-taken-requires-clause-rule g c = takes _ _ _ _ _ c.args.desk.now.own
