use Rattle.std.proofs.Common.{◌≡◌, take}
use Rattle.sarif_evidence.proofs.shown.same_statuses.Given as goal

abbrev pub invariant-loop-status : goal.invariant-loop-status
invariant-loop-status l = l.same ≡ take l.status-index l.statuses
