use Rattle.std.proofs.Common.{◌≡◌, ◌++◌, map, drop, flat_map}
use Rattle.serde_json.specs.View.{view}
use Rattle.sarif_findings.specs.Reported.{reported_in, reported_of}
use Rattle.sarif_findings.proofs.whole.findings_in_log.Given as goal

abbrev pub invariant-loop-run : goal.invariant-loop-run
invariant-loop-run l =
    l.findings.items ++ flat_map (reported_in l.fn.reporting) (map view (drop l.run-index l.run-items))
    ≡ reported_of l.fn.reporting (view l.fn.log)
