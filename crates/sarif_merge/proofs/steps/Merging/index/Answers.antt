use Rattle.sarif_merge.proofs.StepFacts.{indexed_in}
use Rattle.sarif_merge.proofs.steps.Merging.index.Goals as goal

pub returns-clause-indexes : goal.returns-clause-indexes
returns-clause-indexes g c =
    indexed_in c.args.self.now c.as_slice-logs.result.now c.as_slice-baselines.result.now c.in_ok-indexes.indexes.items
    c.as_slice-logs.ensures.value c.as_slice-baselines.ensures.value c.requires.few_logs c.requires.few_baselines c.in_ok-indexes.ensures
