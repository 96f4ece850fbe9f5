-- A result as its finding reads it.
use Rattle.std.specs.Prelude.{◌≡◌, map}
use Rattle.serde_json.specs.Data.{Data}
use Rattle.serde_json.specs.View.{view}
use Rattle.sarif_model.specs.Internal.FirstLocation.{IsFirstLocation}
use Rattle.sarif_model.specs.Internal.References.{IsMessageReference, IsRuleReference, arguments_in}
use Rattle.sarif_findings.specs.declared.told_result.ToldResult.{ToldResult}
use Rattle.sarif_findings.specs.Internal.SnippetsOf.{IsSnippets}

-- whether this was read from that result
abbrev pub IsTold : ToldResult → Data → Type 0
IsTold told result =
    IsRuleReference told.rule result
    × IsMessageReference told.message result
    × (map view told.arguments.now ≡ arguments_in result)
    × IsFirstLocation told.location result
    × IsSnippets told.snippets result
