use Rattle.std.proofs.Common.{rules, arith, ◌≡◌, ◌∙◌, not}
use Rattle.sarif_change.specs.Named.{named_spots}
use Rattle.sarif_change.specs.Outside as said
use Rattle.sarif_change.proofs.OutsideMore.{others_met, never_outside}
use Rattle.sarif_change.proofs.artifacts.KnownArtifacts.is_outside.Goals as goal

pub returns-clause-no_false_pass : goal.returns-clause-no_false_pass
returns-clause-no_false_pass c = λ spot among there.
    let self = c.args.self.now in
    let spots = named_spots self.artifacts c.args.places.now in
    let is : not c.in_ok-met.met ≡ said.is_outside self.changed.now self.roots.now self.scope spots =
    first_of (search (rules, others_met), grind (arith, others_met)) in
    is ∙ never_outside self.changed.now self.roots.now self.scope spots spot among there
