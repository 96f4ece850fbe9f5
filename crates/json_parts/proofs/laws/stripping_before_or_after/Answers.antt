use Rattle.json_parts.proofs.Stripped.{stripped-without}
use Rattle.json_parts.proofs.laws.stripping_before_or_after.Goals as goal

pub returns : goal.returns
returns c = stripped-without
