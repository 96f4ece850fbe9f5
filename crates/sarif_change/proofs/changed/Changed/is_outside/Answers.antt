use Rattle.std.proofs.Common.{rules, arith, ◌≡◌, ◌∙◌, not}
use Rattle.sarif_change.specs.Outside as said
use Rattle.sarif_change.proofs.OutsideMore.{others_met, never_outside}
use Rattle.sarif_change.proofs.changed.Changed.is_outside.Goals as goal

pub returns-clause-no_false_pass : goal.returns-clause-no_false_pass
returns-clause-no_false_pass c = λ spot among there.
    let is : not c.in_ok-met.met ≡ said.is_outside c.args.self.now c.args.roots.now c.args.scope c.args.spots.now =
    first_of (search (rules, others_met), grind (arith, others_met)) in
    is ∙ never_outside c.args.self.now c.args.roots.now c.args.scope c.args.spots.now spot among there
