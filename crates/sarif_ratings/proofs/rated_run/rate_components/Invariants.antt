use Rattle.std.proofs.Common.{◌≡◌, ◌++◌, map, drop}
use Rattle.serde_json.specs.View.{view}
use Rattle.sarif_findings.specs.Internal.RulesOf.{rules_in}
use Rattle.sarif_ratings.proofs.rated_run.rate_components.Given as goal

abbrev pub invariant-loop-component : goal.invariant-loop-component
invariant-loop-component l =
    map (map view) l.made.items ++ map rules_in (map view (drop l.component-index l.components)) ≡ map rules_in (map view l.components)
