-- The artifacts of a run, their URIs read as paths.
use Rattle.std.specs.Prelude.{ℕ, List, Option, codes, map, option_map, option_and_then}
use Rattle.sarif_model.specs.Members.{text_in}
use Rattle.serde_json.specs.Data.{Data}
use Rattle.serde_json.specs.Find.{get}
use Rattle.sarif_findings.specs.Lookup.{elements_in}
use Rattle.sarif_findings.specs.PathOf.{decoded}

-- `location.uri`
abbrev pub uri_of_artifact : Data → Option (List ℕ)
uri_of_artifact artifact =
    option_and_then (text_in (codes "uri")) (get (codes "location") artifact)

-- the URI of the artifact, with its escapes decoded
abbrev pub path_of_artifact : Data → Option (List ℕ)
path_of_artifact artifact = option_map decoded (uri_of_artifact artifact)

-- the paths of all artifacts of a run, in order
abbrev pub artifact_paths : Data → List (Option (List ℕ))
artifact_paths run = map path_of_artifact (elements_in (codes "artifacts") run)
