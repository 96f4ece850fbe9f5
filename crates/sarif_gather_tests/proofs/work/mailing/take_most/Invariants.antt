use Rattle.sarif_dispatch.specs.Ends.{IsDeskOf}
use Rattle.sarif_gather_tests.proofs.work.mailing.take_most.Given as goal

abbrev pub invariant-loop : goal.invariant-loop
invariant-loop g l = IsDeskOf l.mailbox l.desk
