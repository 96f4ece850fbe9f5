use Rattle.sarif_dispatch.specs.Ends.{IsDeskOf}
use Rattle.sarif_gather_tests.proofs.work.mailing.take_next.Given as goal

abbrev pub invariant-loop : goal.invariant-loop
invariant-loop g l = (goal.iterator-loop g).can_next l.iterator' × (goal.iterator-loop g).is_finite l.iterator' × IsDeskOf l.mailbox l.desk
