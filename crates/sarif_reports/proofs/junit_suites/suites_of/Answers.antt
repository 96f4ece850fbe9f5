use Rattle.sarif_reports.proofs.SuitesMore.{suites_next}
use Rattle.sarif_reports.proofs.junit_suites.suites_of.Goals as goal

pub loop-finding-preserved : goal.loop-finding-preserved
loop-finding-preserved c =
    suites_next c.args.findings.now c.loop-finding.finding-index c.finding-item.result _ _ c.loop-finding-test.true c.finding-item.is
    c.in_ok-add_result.ensures c.loop-finding.invariant
