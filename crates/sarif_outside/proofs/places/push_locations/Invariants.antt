use Rattle.std.proofs.Common.{◌≡◌, ◌++◌, List, Some, map}
use Rattle.sarif_change.specs.Named.{named_spot}
use Rattle.sarif_change.specs.Places.{spot_of}
use Rattle.sarif_model.specs.declared.place.Place.{Place}
use Rattle.sarif_read.specs.Internal.Listed.{value_at}
use Rattle.sarif_outside.proofs.places.push_locations.Given as goal

abbrev pub invariant-loop-location : goal.invariant-loop-location
invariant-loop-location l = (artifacts : List Place)
    → map (named_spot artifacts) l.places.items ++ map (λ d. spot_of artifacts (Some d)) (map value_at l.location-iterator.rest.items)
    ≡ map (named_spot artifacts) l.fn.places.items ++ map (λ d. spot_of artifacts (Some d)) (map value_at l.fn.locations.items)
