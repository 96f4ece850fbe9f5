use Rattle.sarif_dispatch.proofs.Deliveries.{takes}
use Rattle.sarif_dispatch.proofs.mailbox.Mailbox.wake_sender.Goals as goal

pub len_as-waiting-requires-clause-rule : goal.len_as-waiting-requires-clause-rule
len_as-waiting-requires-clause-rule g c = (takes _ _ _ _ _ c.args.desk.now.own).1
