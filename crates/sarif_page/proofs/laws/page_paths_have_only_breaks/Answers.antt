use Rattle.sarif_page.proofs.BreaksApart.{broken_apart}
use Rattle.sarif_page.proofs.laws.page_paths_have_only_breaks.Goals as goal

pub returns : goal.returns
returns c = broken_apart
