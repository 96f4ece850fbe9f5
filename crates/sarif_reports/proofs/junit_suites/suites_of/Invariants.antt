use Rattle.std.proofs.Common.{◌≡◌, take}
use Rattle.sarif_reports.specs.Internal.Suites.{pointed, seen_suites, suites_of}
use Rattle.sarif_reports.proofs.junit_suites.suites_of.Given as goal

abbrev pub invariant-loop-finding : goal.invariant-loop-finding
invariant-loop-finding l = seen_suites l.suites ≡ suites_of (pointed (take l.finding-index l.findings))
