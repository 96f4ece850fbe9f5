use Rattle.std.proofs.Common.{ap}
use Rattle.sarif_reports.specs.JunitReport.{attribute, failure}
use Rattle.sarif_reports.proofs.CasesMore.{four, named}
use Rattle.sarif_reports.proofs.junit_case.push_failure.Goals as goal

pub returns : goal.returns
unfolding failure
returns c =
    four _ _ _ _ _ _ _ _ _ (named _ _ _ _ c.in_ok-push_attribute.ensures (ap (attribute _) c.name.ensures))
    (named _ _ _ _ c.in_ok-push_attribute-2.ensures (ap (attribute _) c.as_str.ensures))
    c.in_ok-push_shown_line.ensures (named _ _ _ _ c.in_ok-push_str.ensures.bytes c.failure_end.ensures)
