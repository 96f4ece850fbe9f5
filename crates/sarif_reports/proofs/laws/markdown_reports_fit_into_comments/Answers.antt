use Rattle.sarif_reports.proofs.ConditionsShort.{policy_few}
use Rattle.sarif_reports.proofs.MarkdownShort.{report_few}
use Rattle.sarif_reports.proofs.laws.markdown_reports_fit_into_comments.Goals as goal

pub returns-clause-most : goal.returns-clause-most
returns-clause-most c = report_few

pub returns-clause-policy : goal.returns-clause-policy
returns-clause-policy c = policy_few
