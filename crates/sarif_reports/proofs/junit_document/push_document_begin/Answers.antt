use Rattle.sarif_reports.specs.JunitReport.{document_begin}
use Rattle.sarif_reports.proofs.CasesMore.{named, three}
use Rattle.sarif_reports.proofs.junit_document.push_document_begin.Goals as goal

pub returns : goal.returns
unfolding document_begin
returns c =
    three _ _ _ _ _ _ _ (named _ _ _ _ c.in_ok-push_str.ensures.bytes c.document_head.ensures) c.in_ok-push_counts.ensures
    c.in_ok-push_str-2.ensures.bytes
