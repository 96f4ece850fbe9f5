use Rattle.std.proofs.Common.{◌∙◌, ap, ◌++◌}
use Rattle.std.proofs.lemmas.Str.{IsUtf8-past_char}
use Rattle.std.proofs.StrCases.{chars_of_empty}
use Rattle.sarif_findings.specs.Internal.ShownSoFar.{shown_with}
use Rattle.sarif_findings.proofs.ShownMore.{takes_step}
use Rattle.sarif_findings.proofs.shown_text.ShownText.push_each.Goals as goal

pub loop-c-preserved : goal.loop-c-preserved
loop-c-preserved c =
    let held = c.loop-c.invariant in
    let parts = c.in-Some.ensures.steps.0 in (
      IsUtf8-past_char _ _ c.in-Some.c held.0 parts,
      λ rest. held.1 rest ∙ takes_step c.loop-c.self c.push.new.self _ _ c.in-Some.c rest held.0 parts c.in_ok-push.ensures,
    )

pub returns : goal.returns
returns c = λ rest.
    c.loop-c.invariant.1 rest
    ∙ ap (λ cs. shown_with c.loop-c.self (cs ++ rest)) (chars_of_empty _ c.in-None.ensures.steps.0.0)
