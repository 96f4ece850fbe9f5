-- What a change says about the paths of a run's artifacts.
use Rattle.std.specs.Prelude.{◌≡◌, ℕ, Bool, List, map, Option, Some, None, option_map, if◌then◌else◌}
use Rattle.sarif_diff.specs.declared.section.Section.{Section}
use Rattle.sarif_diff.specs.declared.section.Span.{Span}
use Rattle.sarif_model.specs.declared.place.Place.{Place}
use Rattle.sarif_change.specs.Meeting.{meets}
use Rattle.sarif_change.specs.Internal.Files.{any_changed}
use Rattle.sarif_change.specs.declared.known.KnownPath.{KnownPath}

-- whether a place with this URI and these lines meets the change, if it has a URI
abbrev pub uri_meets : List Section → List (List ℕ) → Option Span → Option (List ℕ) → Option Bool
uri_meets sections roots lines uri = option_map (λ one. meets sections roots one lines) uri

-- whether a place at an artifact with these lines meets the change, if the artifact has a URI
abbrev pub artifact_meets : List Section → List (List ℕ) → Option Span → Place → Option Bool
artifact_meets sections roots lines artifact = uri_meets sections roots lines artifact.uri

-- whether a place at an artifact with these lines meets the change, by what the change says about the artifact's path
abbrev pub known_meets : Option Span → KnownPath → Option Bool
known_meets lines path = if path.has_uri then Some (any_changed lines path.found.items) else None

-- what the change says about the paths of these artifacts, one by one
abbrev pub AreKnown : List Section → List (List ℕ) → List Place → List KnownPath → Type 0
AreKnown sections roots artifacts paths = (lines : Option Span)
    → map (known_meets lines) paths ≡ map (artifact_meets sections roots lines) artifacts
