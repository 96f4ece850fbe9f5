use Rattle.std.proofs.Common.{◌≡◌}
use Rattle.sarif_dispatch.specs.Ends.{IsDeskOf, taken_by}
use Rattle.sarif_dispatch.proofs.mailbox.Mailbox.take_next.Given as goal

abbrev pub invariant-loop : goal.invariant-loop
invariant-loop g l = (goal.iterator-loop g).can_next l.iterator' × (goal.iterator-loop g).is_finite l.iterator' × IsDeskOf l.self l.desk
    × (taken_by l.desk ≡ taken_by l.fn.desk)
