use Rattle.sarif_reports.proofs.JunitLaws.{cases_told, failures_tell, hits_shown}
use Rattle.sarif_reports.proofs.laws.junit_cases_are_results.Goals as goal

pub returns-clause-cases : goal.returns-clause-cases
returns-clause-cases c = cases_told

pub returns-clause-hits : goal.returns-clause-hits
returns-clause-hits c = hits_shown

pub returns-clause-verdict : goal.returns-clause-verdict
returns-clause-verdict c = failures_tell
