use Rattle.sarif_model.specs.declared.kinds.State.TheVariants.{New, Unchanged, Updated, Absent}
use Rattle.sarif_counts.proofs.counts.Counts.plus.Goals as goal

pub returns-clause-both : goal.returns-clause-both
returns-clause-both c Absent l b = c.plus.ensures.both l b
returns-clause-both c New l b = c.plus-2.ensures.both l b
returns-clause-both c Unchanged l b = c.plus-3.ensures.both l b
returns-clause-both c Updated l b = c.plus-4.ensures.both l b
