use Rattle.std.proofs.Common.{◌≡◌, map, drop}
use Rattle.std.specs.List.{list_any}
use Rattle.serde_json.specs.View.{view}
use Rattle.sarif_read.specs.Failed.{is_unsuccessful}
use Rattle.sarif_read.proofs.success.is_any_unsuccessful.Given as goal

abbrev pub invariant-loop-invocation : goal.invariant-loop-invocation
invariant-loop-invocation l =
    list_any is_unsuccessful (map view (drop l.invocation-index l.invocations)) ≡ list_any is_unsuccessful (map view l.invocations)
