use Rattle.std.proofs.Common.{◌≡◌, ℕ, List, map, find, drop}
use Rattle.std.specs.Option.{option_or}
use Rattle.serde_json.specs.View.{view}
use Rattle.sarif_findings.specs.Lookup.{has_id}
use Rattle.sarif_findings.specs.Internal.RulesOf.{rule_at}
use Rattle.sarif_findings.proofs.rules.first_rules.Given as goal

abbrev pub invariant-loop-rule : goal.invariant-loop-rule
invariant-loop-rule l =
    (id : List ℕ) → option_or (rule_at l.first id) (find (has_id id) (map view (drop l.rule-index l.list)))
    ≡ find (has_id id) (map view l.list)
