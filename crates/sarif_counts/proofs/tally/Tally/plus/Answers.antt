use Rattle.std.proofs.Common.{true, false}
use Rattle.sarif_counts.proofs.tally.Tally.plus.Goals as goal

pub returns-clause-both : goal.returns-clause-both
returns-clause-both c l true = c.plus-2.ensures.both l
returns-clause-both c l false = c.plus.ensures.both l
