use Rattle.sarif_shown.proofs.EscapedApart.{marks_apart}
use Rattle.sarif_reports.proofs.laws.markdown_texts_hold_no_mark.Goals as goal

pub returns : goal.returns
returns c = marks_apart
