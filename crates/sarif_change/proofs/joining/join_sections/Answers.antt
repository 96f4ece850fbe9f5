use Rattle.std.proofs.Common.{◌∙◌, ap}
use Rattle.sarif_change.specs.Internal.NamesSeen.{shared_names, with_whole}
use Rattle.sarif_change.proofs.SharedMore.{marked}
use Rattle.sarif_change.proofs.joining.join_sections.Goals as goal

pub returns : goal.returns
returns g c =
    c.in_ok-all.ensures
    ∙ ap (with_whole c.args.sections) (c.deref.ensures.value ∙ c.in_ok-shared.ensures ∙ ap (λ s. shared_names s s) c.as_slice.ensures)
    ∙ marked c.args.sections c.args.sections
