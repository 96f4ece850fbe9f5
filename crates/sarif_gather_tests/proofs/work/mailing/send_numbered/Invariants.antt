use Rattle.std.proofs.Common.{◌≡◌}
use Rattle.sarif_dispatch.specs.Ends.{IsPostOf, number_of}
use Rattle.sarif_gather_tests.proofs.work.mailing.send_numbered.Given as goal

abbrev pub invariant-loop-number : goal.invariant-loop-number
invariant-loop-number g l = IsPostOf l.mailbox l.post × (number_of l.post ≡ number_of l.fn.post)
