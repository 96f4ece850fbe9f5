use Rattle.std.proofs.Common.{ap}
use Rattle.sarif_reports.specs.JunitReport.{attribute, skipped}
use Rattle.sarif_reports.proofs.CasesMore.{named, two}
use Rattle.sarif_reports.proofs.junit_case.push_skipped.Goals as goal

pub returns : goal.returns
unfolding skipped
returns c =
    two _ _ _ _ _ (named _ _ _ _ c.in_ok-push_attribute.ensures (ap (attribute _) c.as_str.ensures))
    (named _ _ _ _ c.in_ok-push_str.ensures.bytes c.skipped_end.ensures)
