use Rattle.std.proofs.Common.{◌<◌, length, arith}
use Rattle.sarif_reports.specs.JunitReport.{plain_name}
use Rattle.sarif_reports.proofs.CasesMore.{cases_step, counts_step, named_few}
use Rattle.sarif_reports.proofs.junit_document.push_cases.Goals as goal

pub push_next_case-requires : goal.push_next_case-requires
push_next_case-requires c =
    let held = c.loop-finding.invariant in
    let fs = c.args.findings.now in
    let i = c.loop-finding.finding-index in
    let name = plain_name c.finding-item.result.now in
    let counted = held.counts name in
    let within : i < length fs = c.loop-finding-test.true in
    let few = named_few fs i name (omega (arith, within)) in
    omega (arith, counted, few, within)

pub loop-finding-preserved : goal.loop-finding-preserved
loop-finding-preserved c =
    let held = c.loop-finding.invariant in
    let fs = c.args.findings.now in
    let i = c.loop-finding.finding-index in
    let f = c.finding-item.result in
    record {
      counts = λ name. counts_step fs i f name _ _ c.loop-finding-test.true c.finding-item.is (c.in_ok-push_next_case.ensures.counted name) (held.counts name);
      written = cases_step c.args.stopping fs i f _ _ _ _ c.loop-finding-test.true c.finding-item.is
          (held.counts (plain_name f.now)) c.in_ok-push_next_case.ensures.written held.written;
    }
