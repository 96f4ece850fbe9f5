use Rattle.sarif_reports.proofs.PolicyFindings.{policy_bars, policy_lines, policy_rows}
use Rattle.sarif_reports.proofs.policy_laws.markdown_rows_of_a_policy_have_their_cells.Goals as goal

pub returns-clause-bars : goal.returns-clause-bars
returns-clause-bars c = policy_bars

pub returns-clause-lines : goal.returns-clause-lines
returns-clause-lines c = policy_lines

pub returns-clause-few : goal.returns-clause-few
returns-clause-few c = policy_rows
