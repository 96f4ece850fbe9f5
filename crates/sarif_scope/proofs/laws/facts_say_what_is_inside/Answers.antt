use Rattle.sarif_scope.proofs.HitsMore.{gate_from, hits_from, summary_from, verdict_from}
use Rattle.sarif_scope.proofs.laws.facts_say_what_is_inside.Goals as goal

pub returns-clause-gate : goal.returns-clause-gate
returns-clause-gate c = gate_from

pub returns-clause-hits : goal.returns-clause-hits
returns-clause-hits c = hits_from

pub returns-clause-verdict : goal.returns-clause-verdict
returns-clause-verdict c = verdict_from

pub returns-clause-summary : goal.returns-clause-summary
returns-clause-summary c = summary_from
