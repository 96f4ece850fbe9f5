use Rattle.std.proofs.Common.{◌∙◌, ◌++◌, ap}
use Rattle.std.proofs.lemmas.Str.{IsUtf8-past_char}
use Rattle.sarif_findings.specs.Internal.ShownSoFar.{kept_with}
use Rattle.sarif_findings.proofs.CodeLines.{keeps_step, nothing_left}
use Rattle.sarif_findings.proofs.code_lines.push_each.Goals as goal

pub loop-c-preserved : goal.loop-c-preserved
loop-c-preserved c =
    let held = c.loop-c.invariant in
    let parts = c.in-Some.ensures.steps.0 in (
      IsUtf8-past_char _ _ c.in-Some.c held.0 parts,
      λ rest. held.1 rest ∙ keeps_step c.loop-c.text c.push_spread.new.text _ _ rest c.in-Some.c held.0 parts c.in_ok-push_spread.ensures,
    )

pub returns : goal.returns
returns c = λ rest.
    c.loop-c.invariant.1 rest ∙ ap (λ cs. kept_with c.loop-c.text (cs ++ rest)) (nothing_left _ c.in-None.ensures.steps.0.0)
