-- Where a result was found (SARIF 2.1.0, "artifactLocation object", "artifact object").
use Rattle.std.specs.Prelude.{ℕ, List, codes, slice_get, Option, Some, None, Result, Ok}
use Rattle.std.specs.Option.{ok_or}
use Rattle.serde_json.specs.Data.{Data}
use Rattle.sarif_model.specs.declared.fault.Fault.{Fault}
use Rattle.sarif_model.specs.declared.fault.Fault.TheVariants.{BadLocation, BadIndex}
use Rattle.sarif_members.specs.declared.parts.Parts.{Parts}
use Rattle.sarif_model.specs.declared.place.Place.{Place}
use Rattle.sarif_model.specs.Members.{◌>>=◌, text_at, object_at, objects_at, read_each, if_there}

-- `uri` and `uriBaseId` of an artifact's `location`; its `index` is not followed
unfoldable pub artifact_of : Data → Result Place Fault
artifact_of d = do
  location ← object_at BadLocation (codes "location") d
  uri ← if_there (text_at BadLocation (codes "uri")) location
  base ← if_there (text_at BadLocation (codes "uriBaseId")) location
  Ok (record { uri = uri; base = base })

-- the places of a run's artifacts, in order
unfoldable pub artifacts_of : Data → Result (List Place) Fault
artifacts_of run = objects_at BadLocation (codes "artifacts") run >>= read_each artifact_of

-- a `uri` goes with the base next to it; without a `uri` the artifact's place is used, in one step; otherwise both
-- are missing
abbrev pub place_by : List Place → Option (List ℕ) → Option (List ℕ) → Option ℕ
    → Result Place Fault
place_by artifacts (Some uri) base artifact = Ok (record { uri = Some uri; base = base })
place_by artifacts None base (Some index) = ok_or (slice_get artifacts index) BadIndex
place_by artifacts None base None = Ok (record { uri = None; base = None })

abbrev pub place_of : List Place → Parts → Result Place Fault
place_of artifacts parts = place_by artifacts parts.uri parts.base parts.artifact
