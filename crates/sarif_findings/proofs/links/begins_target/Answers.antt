use Rattle.std.proofs.Common.{◌∙◌, ap, sym, chars, map, refl}
use Rattle.serde_json.specs.View.{view}
use Rattle.sarif_findings.specs.Links.{begins_target, ends_target}
use Rattle.sarif_findings.proofs.FirstChar.{first_same}
use Rattle.sarif_findings.proofs.links.begins_target.Goals as goal

pub returns-then-c-eq40 : goal.returns-then-c-eq40
returns-then-c-eq40 c =
    let args = map view c.args.args.now in
    first_same (begins_target args) (λ cs. ends_target args cs) 40 _ _ c.in-Some.c _ (λ cs. refl) c.utf8.text
    (sym c.chars-rest.ensures.rest ∙ c.in-Some.ensures.steps.0) c.if-c-eq40.true
    (c.ends_target.ensures ∙ ap (λ bs. ends_target args (chars bs)) c.as_str.ensures)
