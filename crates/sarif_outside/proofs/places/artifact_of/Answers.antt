use Rattle.std.proofs.Common.{◌∙◌, ap, codes}
use Rattle.std.specs.Prelude.{option_map}
use Rattle.sarif_change.specs.Places as said
use Rattle.sarif_read.specs.Internal.Listed.{value_at}
use Rattle.sarif_outside.proofs.places.artifact_of.Goals as goal

pub returns-in-Some : goal.returns-in-Some
returns-in-Some c = λ artifacts.
    let artifact = option_map value_at c.args.artifact.now in
    let index = said.member_in (codes "index") artifact in
    c.by_uri.ensures artifacts index ∙ ap (λ uri. said.uri_by artifacts uri index) c.in-Some.ensures
