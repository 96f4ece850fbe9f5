use Rattle.std.proofs.Common.{ap}
use Rattle.sarif_reports.specs.JunitReport.{attribute, case_begin}
use Rattle.sarif_reports.proofs.CasesMore.{five, named}
use Rattle.sarif_reports.proofs.junit_case.push_begin.Goals as goal

pub returns : goal.returns
unfolding case_begin
returns c =
    five _ _ _ _ _ _ _ _ _ _ _ c.in_ok-push_attribute.ensures
    (named _ _ _ _ c.in_ok-push_attribute-2.ensures (ap (attribute _) c.class_of.ensures))
    c.in_ok-push_str.ensures.bytes c.in_ok-push_file.ensures c.in_ok-push_line.ensures
