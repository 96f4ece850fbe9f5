use Rattle.std.proofs.Common.{◌≡◌, ◌++◌, map, drop}
use Rattle.std.specs.List.{filter_map}
use Rattle.serde_json.specs.View.{view}
use Rattle.sarif_findings.specs.Reported.{finding_if}
use Rattle.sarif_findings.proofs.whole.push_told.Given as goal

abbrev pub invariant-loop-found : goal.invariant-loop-found
invariant-loop-found l =
    l.findings.items ++ filter_map (finding_if l.fn.reporting (view l.fn.run)) (map view (drop l.found-index l.results))
    ≡ l.fn.findings.items ++ filter_map (finding_if l.fn.reporting (view l.fn.run)) (map view l.results)
