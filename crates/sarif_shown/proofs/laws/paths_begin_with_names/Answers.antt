use Rattle.sarif_shown.proofs.PathsApart.{all_named}
use Rattle.sarif_shown.proofs.laws.paths_begin_with_names.Goals as goal

pub returns : goal.returns
returns c = all_named
