-- Artifacts that are found by their indices.
use Rattle.std.proofs.Common.{◌≡◌, ℕ, List, slice_get, Option, Some, None, option_map, option_and_then, codes, refl, ap, ◌∙◌}
use Rattle.std.specs.Option.{option_flatten}
use Rattle.std.proofs.lemmas.Option.{slice_get-map}
use Rattle.sarif_model.specs.Members.{text_in}
use Rattle.serde_json.specs.Data.{Data}
use Rattle.serde_json.specs.Find.{get}
use Rattle.sarif_findings.specs.Internal.ArtifactsOf.{artifact_paths, path_of_artifact}
use Rattle.sarif_findings.specs.Lookup.{artifact_uri, elements_in}
use Rattle.sarif_findings.specs.PathOf.{decoded}

path_of_some : (artifact : Option Data) → option_flatten (option_map path_of_artifact artifact)
    ≡ option_map decoded (option_and_then (text_in (codes "uri")) (option_and_then (get (codes "location")) artifact))
path_of_some None = refl
path_of_some (Some artifact) = refl

-- the path at an index is that of the artifact there
pub path_found : (run : Data) (i : ℕ) (paths : List (Option (List ℕ))) (found : Option (List ℕ)) → paths ≡ artifact_paths run
    → found ≡ option_flatten (slice_get paths i) → found ≡ option_map decoded (artifact_uri run i)
path_found run i paths found are is =
    is ∙ ap (λ ps. option_flatten (slice_get ps i)) are
    ∙ ap option_flatten (slice_get-map path_of_artifact (elements_in (codes "artifacts") run) i)
    ∙ path_of_some (slice_get (elements_in (codes "artifacts") run) i)
