use Rattle.sarif_change.proofs.GrowthMore.{by_files}
use Rattle.sarif_change.proofs.laws.inside_by_lines_is_inside_by_files.Goals as goal

pub returns : goal.returns
returns c = by_files
