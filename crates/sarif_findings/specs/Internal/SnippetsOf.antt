-- The snippets of a result's first location (SARIF 2.1.0, "physicalLocation object", "region object", "artifactContent
-- object"). A member of the wrong type is treated as missing.
use Rattle.std.specs.Prelude.{◌≡◌, ℕ, List, Option, codes, option_map, option_and_then}
use Rattle.serde_json.specs.Data.{Data}
use Rattle.serde_json.specs.Find.{get}
use Rattle.sarif_model.specs.Internal.FirstLocation.{first_physical, first_region, string_in, integer_in}
use Rattle.sarif_findings.specs.declared.snippets.Snippets.{Snippets}

-- `locations[0].physicalLocation.contextRegion`
abbrev pub first_context : Data → Option Data
first_context result = option_and_then (get (codes "contextRegion")) (first_physical result)

-- `snippet.text` of a region
abbrev pub snippet_of : Option Data → Option (List ℕ)
snippet_of region = string_in (codes "text") (option_and_then (get (codes "snippet")) region)

-- whether these were read from that result
abbrev pub IsSnippets : Snippets → Data → Type 0
IsSnippets snippets result =
    (option_map (λ text. text.now) snippets.region ≡ snippet_of (first_region result))
    × (option_map (λ text. text.now) snippets.context ≡ snippet_of (first_context result))
    × (snippets.context_line ≡ integer_in (codes "startLine") (first_context result))
