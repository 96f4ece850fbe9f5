use Rattle.std.proofs.Common.{◌≡◌, map, drop}
use Rattle.serde_json.specs.View.{view}
use Rattle.sarif_model.specs.Members.{read_each}
use Rattle.sarif_runs.specs.Reading.{before}
use Rattle.sarif_runs.specs.Rules.{rule_of}
use Rattle.sarif_runs.proofs.open.read_rules.Given as goal

abbrev pub invariant-loop-value : goal.invariant-loop-value
invariant-loop-value l =
    before l.rules.items (read_each rule_of (map view (drop l.value-index l.values))) ≡ read_each rule_of (map view l.values)
