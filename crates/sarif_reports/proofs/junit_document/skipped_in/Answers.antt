use Rattle.std.proofs.Common.{arith, sym}
use Rattle.sarif_shown.specs.Stopping.{is_let_pass}
use Rattle.sarif_reports.proofs.CasesMore.{counted_step, one_at_most}
use Rattle.sarif_reports.proofs.junit_document.skipped_in.Goals as goal

pub loop-finding-preserved : goal.loop-finding-preserved
loop-finding-preserved c =
    let held = c.loop-finding.invariant in
    let f = c.finding-item.result in
    let test = c.is_let_pass-skips in
    let one = c.one_if-skipped.ensures in
    let most = one_at_most test.result in
    record {
      few = omega (arith, one, most, held.few);
      counted = counted_step (λ g. is_let_pass c.args.stopping g.impact) c.args.findings.now c.loop-finding.finding-index f test.result c.loop-finding.skipped _ _
          c.loop-finding-test.true c.finding-item.is (sym test.ensures) (omega (arith, one)) held.counted;
    }
