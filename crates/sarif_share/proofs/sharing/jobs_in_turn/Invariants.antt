use Rattle.std.proofs.Common.{◌≡◌, ◌++◌}
use Rattle.sarif_share.specs.Sharing.{GivesEach}
use Rattle.sarif_share.proofs.sharing.jobs_in_turn.Given as goal

abbrev pub invariant-loop-job : goal.invariant-loop-job
invariant-loop-job g l =
    (parts : l.fn.jobs.items ≡ l.yielded ++ l.job-iterator.rest.items)
    × GivesEach g.F.Fn l.one l.yielded l.made.items
