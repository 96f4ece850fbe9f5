use Rattle.sarif_merge.proofs.StepFacts.{is_merge_of}
use Rattle.sarif_merge.proofs.steps.Merging.assemble.Goals as goal

pub returns-clause-merged : goal.returns-clause-merged
returns-clause-merged g c =
    is_merge_of c.args.self.now c.args.prepared c.in_ok-made.made.0 c.requires.prepared c.in_ok-made.ensures.counted c.in_ok-made.ensures.expired
    c.in_ok-made.ensures.life
