use Rattle.sarif_match_laws.proofs.ByTool.{matched_apart}
use Rattle.sarif_match_laws.proofs.laws.tools_are_matched_apart.Goals as goal

pub returns : goal.returns
returns c = matched_apart
