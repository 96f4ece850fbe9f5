use Rattle.std.proofs.Common.{◌≡◌, ◌++◌, drop, map}
use Rattle.sarif_known.specs.KnownResult.{suppression_for}
use Rattle.sarif_known.specs.Internal.Tokens.{each_tokens}
use Rattle.sarif_known.proofs.members.push_suppressions.Given as goal

abbrev pub invariant-loop-status : goal.invariant-loop-status
invariant-loop-status l = l.out ++ each_tokens (map suppression_for (drop l.status-index l.held)) ≡ l.initial.out ++ each_tokens (map suppression_for l.held)
