use Rattle.std.proofs.lemmas.Str.{IsUtf8-past_char}
use Rattle.sarif_page.specs.HtmlBreaks.{broken}
use Rattle.sarif_page.proofs.BrokenMore.{all_broken, one_broken}
use Rattle.sarif_page.proofs.breaks.push_broken.Goals as goal

pub loop-c-preserved : goal.loop-c-preserved
loop-c-preserved c =
    let held = c.loop-c.invariant in
    let parts = c.in-Some.ensures.steps.0 in (
      IsUtf8-past_char _ _ c.in-Some.c held.0 parts,
      rw (c.in_ok-push_broken_char.ensures, c.is_small-small.ensures) (one_broken _ _ _ _ c.in-Some.c c.loop-c.small held.0 parts held.1),
    )

pub returns : goal.returns
unfolding broken
returns c = all_broken _ _ _ c.loop-c.small c.in-None.ensures.steps.0.0 c.loop-c.invariant.1
