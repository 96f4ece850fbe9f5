use Rattle.std.proofs.Common.{◌∙◌}
use Rattle.sarif_upkeep.proofs.OthersCounted.{absent_of_all, absent_of_none}
use Rattle.sarif_upkeep.proofs.leaving.absent_by_options.Goals as goal

pub returns-in-None-clause-count : goal.returns-in-None-clause-count
returns-in-None-clause-count c = λ m is. c.absent_hits.ensures.count m.file ∙ absent_of_all m c.args.matched.now is c.in-None.is

pub returns-in-Some-clause-count : goal.returns-in-Some-clause-count
returns-in-Some-clause-count c = λ m is. absent_of_none m c.args.matched.now is _ c.in-Some.is
