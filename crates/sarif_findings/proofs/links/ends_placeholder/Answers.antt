use Rattle.std.proofs.Common.{◌∙◌, ap, sym, chars, map, refl}
use Rattle.serde_json.specs.View.{view}
use Rattle.sarif_findings.specs.Links.{ends_placeholder, names_number}
use Rattle.sarif_findings.specs.Placeholders.{index_from}
use Rattle.sarif_findings.proofs.FirstChar.{first_same}
use Rattle.sarif_findings.proofs.links.ends_placeholder.Goals as goal

pub returns-then-c-eq123 : goal.returns-then-c-eq123
returns-then-c-eq123 c =
    let args = map view c.args.args.now in
    first_same (ends_placeholder args) (λ cs. names_number args (index_from 0 0 cs) cs) 123 _ _ c.in-Some.c _ (λ cs. refl) c.utf8.text
    (sym c.chars-rest.ensures.rest ∙ c.in-Some.ensures.steps.0) c.if-c-eq123.true
    (c.names_number.ensures ∙ ap (λ bs. names_number args (index_from 0 0 (chars bs)) (chars bs)) c.as_str.ensures)
