use Rattle.std.proofs.Common.{Some, ap}
use Rattle.sarif_prepare.proofs.once.put_together.Goals as goal

pub invariant_of-result : goal.invariant_of-result
invariant_of-result c = record {
  current_is = c.requires.current_is;
  baseline_is = c.requires.baseline_is;
  few = c.requires.few;
  flags_of_current = ap Some c.requires.flags_of_current;
  flags_of_baseline = ap Some c.requires.flags_of_baseline;
}
