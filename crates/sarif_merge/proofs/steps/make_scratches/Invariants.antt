use Rattle.std.proofs.Common.{◌≡◌, length}
use Rattle.sarif_merge.proofs.steps.make_scratches.Given as goal

abbrev pub invariant-loop-source : goal.invariant-loop-source
invariant-loop-source l = length l.scratches.items ≡ l._source
