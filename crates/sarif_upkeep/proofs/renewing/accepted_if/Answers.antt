use Rattle.std.proofs.Common.{[], sym, ap, ◌∙◌, if◌then◌else◌}
use Rattle.std.proofs.lemmas.Result.{IfOk-weaker}
use Rattle.sarif_upkeep.specs.Renewed.{accepted_in}
use Rattle.sarif_upkeep.proofs.OthersCounted.{hidden_none, hidden_some}
use Rattle.sarif_upkeep.proofs.renewing.accepted_if.Goals as goal

pub accepted_shown-requires : goal.accepted_shown-requires
accepted_shown-requires c = (c.requires.0, c.requires.1, hidden_some c.requires.0 c.args.matched.now c.requires.1 _ c.in-Some.is)

pub returns-in-None-clause-accepted : goal.returns-in-None-clause-accepted
returns-in-None-clause-accepted c = λ m is.
    IfOk-weaker c.accepted_all.result _ _
    (λ accepted found. found ∙ ap (λ b. if b then accepted_in m else []) (sym c.if-not-accept.false))
    (c.accepted_all.ensures.accepted m is (hidden_none m c.args.matched.now is c.in-None.is))

pub returns-in-Some-clause-accepted : goal.returns-in-Some-clause-accepted
returns-in-Some-clause-accepted c = λ m is.
    IfOk-weaker c.accepted_shown.result _ _
    (λ accepted found. found ∙ ap (λ b. if b then accepted_in m else []) (sym c.if-not-accept.false))
    (c.accepted_shown.ensures.accepted m is (hidden_some m c.args.matched.now is _ c.in-Some.is))
