use Rattle.sarif_dispatch.specs.Hands.{IsHandOf}
use Rattle.sarif_gather_tests.proofs.work.dealing.draw_out.Given as goal

abbrev pub invariant-loop : goal.invariant-loop
invariant-loop l = IsHandOf l.deal l.hand
