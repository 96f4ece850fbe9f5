use Rattle.std.proofs.Common.{◌≡◌, ◌+◌, ◌≤◌, drop}
use Rattle.sarif_reports.specs.JunitReport as said
use Rattle.sarif_reports.specs.Internal.Suites.{pointed}
use Rattle.sarif_reports.proofs.junit_document.failures_in.Given as goal

abbrev pub invariant-loop-finding : goal.invariant-loop-finding
invariant-loop-finding l = record {
  few : l.failures ≤ l.finding-index;
  counted : l.failures + said.failures_in l.stopping (pointed (drop l.finding-index l.findings)) ≡ said.failures_in l.stopping (pointed l.findings);
}
