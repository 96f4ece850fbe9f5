use Rattle.std.proofs.Common.{◌∙◌}
use Rattle.sarif_upkeep.proofs.OthersCounted.{absent_fewer, absent_ruled, absent_unruled}
use Rattle.sarif_upkeep.proofs.leaving.absent_stay.Goals as goal

pub returns-in-None-clause-count : goal.returns-in-None-clause-count
returns-in-None-clause-count c = λ m is. c.absent_by_options.ensures.count m is ∙ absent_unruled m c.args.matched.now is c.in-None.is

pub returns-in-Some-clause-count : goal.returns-in-Some-clause-count
returns-in-Some-clause-count c = λ m is. absent_ruled m c.args.matched.now is _ c.in-Some.is

pub returns-in-Some-clause-few : goal.returns-in-Some-clause-few
returns-in-Some-clause-few c = absent_fewer c.requires.0 c.args.matched.now c.requires.1 _ c.in-Some.is
