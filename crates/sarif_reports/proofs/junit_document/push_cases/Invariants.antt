use Rattle.std.proofs.Common.{◌≡◌, ◌++◌, ℕ, List, [], take, drop, string_bytes}
use Rattle.sarif_reports.specs.JunitReport.{cases_after, named_among}
use Rattle.sarif_reports.specs.Internal.Suites.{counted, pointed}
use Rattle.sarif_reports.proofs.junit_document.push_cases.Given as goal

abbrev pub invariant-loop-finding : goal.invariant-loop-finding
invariant-loop-finding l = record {
  counts : (name : List ℕ) → counted l.counts name ≡ named_among (pointed (take l.finding-index l.findings)) name;
  written : string_bytes l.text ++ cases_after l.stopping (pointed (take l.finding-index l.findings)) (pointed (drop l.finding-index l.findings))
      ≡ string_bytes l.fn.text ++ cases_after l.stopping [] (pointed l.findings);
}
