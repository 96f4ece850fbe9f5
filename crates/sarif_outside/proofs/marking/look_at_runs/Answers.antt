use Rattle.sarif_outside.specs.Internal.Asked.{scoped}
use Rattle.sarif_outside.proofs.RunsLooked.{all_looked, all_placed}
use Rattle.sarif_outside.proofs.marking.look_at_runs.Goals as goal

pub returns-clause-placed : goal.returns-clause-placed
returns-clause-placed c = all_placed (scoped c.args.change) c.in_ok-made.made.items c.args.runs.now c.in_ok-made.ensures

pub returns-clause-looked : goal.returns-clause-looked
returns-clause-looked c = all_looked (scoped c.args.change) c.in_ok-made.made.items c.args.runs.now c.in_ok-made.ensures
