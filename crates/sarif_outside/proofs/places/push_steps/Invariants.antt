use Rattle.std.proofs.Common.{◌≡◌, ◌++◌, List, map, drop}
use Rattle.sarif_change.specs.Named.{named_spot}
use Rattle.sarif_change.specs.Places.{location_of, spot_of}
use Rattle.sarif_model.specs.declared.place.Place.{Place}
use Rattle.sarif_read.specs.Internal.Listed.{value_at}
use Rattle.sarif_outside.proofs.places.push_steps.Given as goal

abbrev pub invariant-loop-step : goal.invariant-loop-step
invariant-loop-step l = (artifacts : List Place)
    → map (named_spot artifacts) l.places.items ++ map (λ d. spot_of artifacts (location_of d)) (map value_at (drop l.step-index l.steps))
    ≡ map (named_spot artifacts) l.fn.places.items ++ map (λ d. spot_of artifacts (location_of d)) (map value_at l.steps)
