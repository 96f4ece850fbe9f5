use Rattle.sarif_laws.proofs.LineFeeds.{unused_lines}
use Rattle.sarif_laws.proofs.laws.each_unused_entry_has_a_line.Goals as goal

pub returns : goal.returns
returns c = unused_lines
