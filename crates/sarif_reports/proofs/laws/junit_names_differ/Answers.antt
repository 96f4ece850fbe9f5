use Rattle.sarif_reports.proofs.NamesApart.{names_apart}
use Rattle.sarif_reports.proofs.laws.junit_names_differ.Goals as goal

pub returns : goal.returns
returns c = names_apart
