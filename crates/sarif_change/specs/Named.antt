-- The places of a result as its log says them, by the artifacts of its run.
use Rattle.std.specs.Prelude.{ℕ, List, map, Option, Some, None}
use Rattle.sarif_model.specs.declared.place.Place.{Place}
use Rattle.sarif_change.specs.Places.{uri_at}
use Rattle.sarif_change.specs.declared.spots.ArtifactName.{ArtifactName}
use Rattle.sarif_change.specs.declared.spots.ArtifactName.TheVariants.{Unnamed, Uri, Index}
use Rattle.sarif_change.specs.declared.spots.NamedPlace.{NamedPlace}
use Rattle.sarif_change.specs.declared.spots.NamedPlaces.{NamedPlaces}
use Rattle.sarif_change.specs.declared.spots.Spot.{Spot}
use Rattle.sarif_change.specs.declared.spots.Spots.{Spots}

-- the URI of an artifact with that name
abbrev pub named_uri : List Place → ArtifactName → Option (List ℕ)
named_uri artifacts Unnamed = None
named_uri artifacts (Uri uri) = Some uri.now
named_uri artifacts (Index number) = uri_at artifacts number

abbrev pub named_spot : List Place → NamedPlace → Spot
named_spot artifacts place =
    record { uri = named_uri artifacts place.artifact; region = place.region }

abbrev pub named_spots : List Place → NamedPlaces → Spots
named_spots artifacts places =
    record {
      locations = map (named_spot artifacts) places.locations.items;
      others = map (named_spot artifacts) places.others.items;
      elsewhere = places.elsewhere;
    }
