use Rattle.sarif_reports.proofs.ArrayRead.{array_read}
use Rattle.sarif_reports.proofs.laws.gitlab_reports_read_back.Goals as goal

pub returns : goal.returns
returns c = array_read
