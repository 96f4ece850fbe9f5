use Rattle.sarif_log.proofs.Uncopied.{if_one, merged_by}
use Rattle.sarif_log.proofs.assembling.assemble.Goals as goal

pub returns-clause-merged : goal.returns-clause-merged
returns-clause-merged g c =
    if_one _ _ c.join-made.result.1 c.join-made.ensures.second.0 (λ made. merged_by c.args.prepared c.args.options.now.policy made.0)
