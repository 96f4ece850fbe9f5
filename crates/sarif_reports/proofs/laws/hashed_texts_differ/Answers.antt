use Rattle.sarif_reports.proofs.HashedApart.{hashed_apart}
use Rattle.sarif_reports.proofs.laws.hashed_texts_differ.Goals as goal

pub returns : goal.returns
returns c = hashed_apart
