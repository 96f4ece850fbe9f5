use Rattle.std.proofs.Common.{sym}
use Rattle.sarif_findings.proofs.ShownMore.{shown_with-nil}
use Rattle.sarif_findings.proofs.shown_text.ShownText.finish.Goals as goal

pub returns : goal.returns
returns c = sym (shown_with-nil c.args.self)
