use Rattle.std.proofs.Common.{ap}
use Rattle.sarif_reports.specs.JunitReport.{counted, test_counts}
use Rattle.sarif_reports.proofs.CasesMore.{named, two}
use Rattle.sarif_reports.proofs.junit_document.push_counts.Goals as goal

pub returns : goal.returns
unfolding test_counts
returns c =
    two _ _ _ _ _ (named _ _ _ _ c.in_ok-push_counted.ensures (ap (counted _) c.tests_in.ensures))
    (named _ _ _ _ c.in_ok-push_counted-2.ensures (ap (counted _) c.failures_in.ensures))
