use Rattle.std.proofs.Common.{ap}
use Rattle.sarif_reports.specs.JunitReport.{counted, suite_begin}
use Rattle.sarif_reports.proofs.CasesMore.{four, named}
use Rattle.sarif_reports.proofs.junit_document.push_suite_begin.Goals as goal

pub returns : goal.returns
unfolding suite_begin
returns c =
    four _ _ _ _ _ _ _ _ _ c.in_ok-push_attribute.ensures c.in_ok-push_counts.ensures
    (named _ _ _ _ c.in_ok-push_counted.ensures (ap (counted _) c.skipped_in.ensures)) c.in_ok-push_str.ensures.bytes
