use Rattle.std.proofs.Common.{◌∙◌, ap, sym, chars, map, refl}
use Rattle.serde_json.specs.View.{view}
use Rattle.sarif_findings.specs.Internal.Brackets.{closes_link}
use Rattle.sarif_findings.specs.Links.{begins_target}
use Rattle.sarif_findings.proofs.FirstChar.{first_same}
use Rattle.sarif_findings.proofs.links.closes_link.Goals as goal

pub returns-then-c-eq93 : goal.returns-then-c-eq93
returns-then-c-eq93 c =
    let args = map view c.args.args.now in
    first_same (closes_link args) (λ cs. begins_target args cs) 93 _ _ c.in-Some.c _ (λ cs. refl) c.utf8.text
    (sym c.chars-rest.ensures.rest ∙ c.in-Some.ensures.steps.0) c.if-c-eq93.true
    (c.begins_target.ensures ∙ ap (λ bs. begins_target args (chars bs)) c.as_str.ensures)
