use Rattle.std.proofs.Common.{◌≡◌, map, drop}
use Rattle.std.specs.List.{list_any}
use Rattle.sarif_change.specs.Places.{is_elsewhere}
use Rattle.sarif_read.specs.Internal.Listed.{value_at}
use Rattle.sarif_outside.proofs.places.is_any_elsewhere.Given as goal

abbrev pub invariant-loop-step : goal.invariant-loop-step
invariant-loop-step l =
    list_any is_elsewhere (map value_at (drop l.step-index l.steps)) ≡ list_any is_elsewhere (map value_at l.steps)
