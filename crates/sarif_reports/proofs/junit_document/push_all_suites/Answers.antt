use Rattle.std.proofs.Common.{rules, ◌<◌, length}
use Rattle.sarif_reports.proofs.CasesMore.{suites_step}
use Rattle.sarif_reports.proofs.junit_document.push_all_suites.Goals as goal

pub loop-number-preserved : goal.loop-number-preserved
loop-number-preserved c =
    let es = c.args.suites.now.entries in
    let within : c.loop-number.number < length es = search rules in
    suites_step c.args.stopping es c.loop-number.number _ _ _ within c.in_ok-push_suite_at.ensures c.loop-number.invariant
