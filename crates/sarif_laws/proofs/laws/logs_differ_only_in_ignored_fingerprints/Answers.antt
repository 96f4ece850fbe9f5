use Rattle.sarif_laws.proofs.IgnoredLog.{lacks_ignored, nothing_changes}
use Rattle.sarif_laws.proofs.laws.logs_differ_only_in_ignored_fingerprints.Goals as goal

pub returns : goal.returns
returns c = record { alone = lacks_ignored; nothing = λ inputs policy none same older. nothing_changes inputs none same older policy }
