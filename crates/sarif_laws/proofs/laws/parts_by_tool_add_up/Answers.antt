use Rattle.sarif_laws.proofs.Sums.{sums_of_parts}
use Rattle.sarif_laws.proofs.laws.parts_by_tool_add_up.Goals as goal

pub returns : goal.returns
returns c = sums_of_parts
