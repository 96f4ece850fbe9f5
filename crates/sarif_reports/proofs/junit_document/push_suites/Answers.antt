use Rattle.sarif_reports.specs.Internal.Suites.{pointed}
use Rattle.sarif_reports.proofs.CasesMore.{named, suites_told}
use Rattle.sarif_reports.proofs.junit_document.push_suites.Goals as goal

pub returns : goal.returns
returns c =
    named _ _ _ _ c.in_ok-push_all_suites.ensures
    (suites_told c.args.stopping c.in_ok-suites.suites.entries (pointed c.args.findings.now) c.in_ok-suites.ensures)
