use Rattle.std.proofs.Common.{sym, ap, ◌∙◌, chars}
use Rattle.sarif_findings.specs.PathOf.{after_here, begins_here}
use Rattle.sarif_findings.proofs.PathMore.{here_step, here_stop}
use Rattle.sarif_findings.proofs.path.without_here.Goals as goal

pub returns-then-begins_here : goal.returns-then-begins_here
returns-then-begins_here c =
    let told = ap (λ bs. begins_here c.in-Some.c (chars bs)) c.as_str.ensures in
    c.after_here.ensures ∙ ap (λ bs. after_here (chars bs)) c.as_str-then-begins_here.ensures
    ∙ here_step _ _ c.in-Some.c c.utf8.path (sym c.chars-rest.ensures.rest ∙ c.in-Some.ensures.steps.0)
    (sym (c.begins_here.ensures ∙ told) ∙ c.if-begins_here.true)

pub returns-else-begins_here : goal.returns-else-begins_here
returns-else-begins_here c =
    let told = ap (λ bs. begins_here c.in-Some.c (chars bs)) c.as_str.ensures in
    here_stop _ _ c.in-Some.c c.utf8.path (sym c.chars-rest.ensures.rest ∙ c.in-Some.ensures.steps.0)
    (sym (c.begins_here.ensures ∙ told) ∙ c.if-begins_here.false)
