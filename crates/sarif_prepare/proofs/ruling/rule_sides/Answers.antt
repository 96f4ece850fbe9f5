use Rattle.std.proofs.Common.{Some, sym, ap, ◌∙◌}
use Rattle.std.specs.Prelude.{option_map}
use Rattle.sarif_prepare.specs.Kept.{change_in}
use Rattle.sarif_prepare.specs.Ruled.{decided_by, matched_in}
use Rattle.sarif_prepare.proofs.ruling.rule_sides.Goals as goal

pub returns-in_ok-ruling-in-Some : goal.returns-in_ok-ruling-in-Some
returns-in_ok-ruling-in-Some g c = λ now before h.
    let rules = c.args.rules.now in
    let m = matched_in c.args.options.now.checks.matching rules.file.now (change_in rules) now before in
    ap Some (c.in_ok-ruling-in-Some.ensures now before h)
    ∙ sym (ap (λ o. decided_by o m) (ap (option_map (λ policy. policy.now.conditions)) c.in-Some.is))
