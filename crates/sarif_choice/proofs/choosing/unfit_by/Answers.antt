use Rattle.std.proofs.Common.{ap, map, ◌∙◌}
use Rattle.sarif_choice.specs.Choice.{unfit_in}
use Rattle.sarif_choice.proofs.choosing.unfit_by.Goals as goal

pub returns : goal.returns
returns c =
    c.in_ok-unfit.ensures
    ∙ ap (λ hits. unfit_in c.args.choice.now (map (λ hit. hit.now) hits)) c.deref.ensures.value
    ∙ ap (unfit_in c.args.choice.now) c.requires
