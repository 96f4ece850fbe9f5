use Rattle.std.proofs.Common.{length, map, take, drop, refl, ap, ◌∙◌}
use Rattle.std.proofs.lemmas.List.{length-map}
use Rattle.sarif_prepare.specs.Internal.Impacts.{told_parts}
use Rattle.sarif_prepare.specs.Told.{of_all, shown_by}
use Rattle.sarif_prepare.proofs.ToldRuled.{ruled_told}
use Rattle.sarif_prepare.proofs.impacts.tell_shown.Goals as goal

pub tell_parts-requires-clause-each : goal.tell_parts-requires-clause-each
tell_parts-requires-clause-each g c κs within =
    ap length (c.deref.ensures.value ∙ c.in_ok-shown.ensures) ∙ length-map c.args.impacts.now (shown_by c.args.reporting.now.show) ∙ c.requires.each

pub returns : goal.returns
returns g c = λ file now before h change cs is.
    let reporting = c.args.reporting.now in
    let sides = c.args.sides.now in
    let n = length sides.current.now.drafts.items in
    let shown = map (shown_by reporting.show) c.args.impacts.now in
    c.in_ok-findings.ensures
    ∙ ap (told_parts sides c.deref.result.now) c.in_ok-all.ensures
    ∙ ap (λ s. told_parts sides s (of_all reporting)) (c.deref.ensures.value ∙ c.in_ok-shown.ensures)
    ∙ ruled_told c.args.options.now.checks.matching file now before sides.current.now sides.baselines.now sides.paired.now h c.requires.paired change cs
    reporting c.args.impacts.now (take n shown) (drop n shown) is refl refl
