use Rattle.sarif_merge.specs.Given.{inputs_of}
use Rattle.sarif_merge.proofs.Alone.{untold_alone}
use Rattle.sarif_merge.proofs.merge.merge_bytes.Goals as goal

pub returns-clause-untold : goal.returns-clause-untold
returns-clause-untold g c =
    untold_alone (inputs_of c.args.sources.now c.args.options.now) c.args.options.now.policy c.in_ok-merged.merged c.in_ok-merged.ensures.merged
