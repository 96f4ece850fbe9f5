use Rattle.std.proofs.lemmas.Str.{IsUtf8-past_char}
use Rattle.sarif_page.specs.HtmlCode.{code_text}
use Rattle.sarif_page.proofs.CodeMore.{all_coded, one_coded}
use Rattle.sarif_page.proofs.html_code.push_code_text.Goals as goal

pub loop-c-preserved : goal.loop-c-preserved
loop-c-preserved c =
    let held = c.loop-c.invariant in
    let parts = c.in-Some.ensures.steps.0 in (
      IsUtf8-past_char _ _ c.in-Some.c held.0 parts,
      rw c.in_ok-push_code_char.ensures (one_coded _ _ _ _ c.in-Some.c held.0 parts held.1),
    )

pub returns : goal.returns
unfolding code_text
returns c = all_coded _ _ _ c.in-None.ensures.steps.0.0 c.loop-c.invariant.1
