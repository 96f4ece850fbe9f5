use Rattle.sarif_reports.proofs.CasesMore.{named, three}
use Rattle.sarif_reports.proofs.junit_document.push_suite.Goals as goal

pub returns : goal.returns
returns c =
    three _ _ _ _ _ _ _ c.in_ok-push_suite_begin.ensures c.in_ok-push_cases.ensures
    (named _ _ _ _ c.in_ok-push_str.ensures.bytes c.suite_end.ensures)
