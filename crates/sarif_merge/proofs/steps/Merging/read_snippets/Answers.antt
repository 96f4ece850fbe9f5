use Rattle.sarif_inputs.specs.PolicyIn.{conditions_in}
use Rattle.sarif_merge.proofs.StepFacts.{baselines_ready, logs_ready}
use Rattle.sarif_merge.proofs.steps.Merging.read_snippets.Goals as goal

pub returns-clause-logs : goal.returns-clause-logs
returns-clause-logs c =
    logs_ready c.args.self.now (conditions_in c.args.files.now.policy.now) c.args.files.now.file.now c.args.runs.current.items c.read_snippets.new.runs.items
    c.requires.logs c.requires.policy c.requires.file c.read_snippets.ensures

pub returns-clause-baselines : goal.returns-clause-baselines
returns-clause-baselines c =
    baselines_ready c.args.self.now (conditions_in c.args.files.now.policy.now) c.args.files.now.file.now c.args.runs.baseline.items
    c.read_snippets-2.new.runs.items c.requires.baselines c.requires.policy c.requires.file c.read_snippets-2.ensures
