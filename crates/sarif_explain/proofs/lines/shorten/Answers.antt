use Rattle.std.proofs.Common.{◌∙◌}
use Rattle.std.proofs.lemmas.Str.{IsUtf8-past_char}
use Rattle.sarif_explain.proofs.ShortenedMore.{ends_short, keeps_one, ends_whole}
use Rattle.sarif_explain.proofs.lines.shorten.Goals as goal

pub loop-c-preserved : goal.loop-c-preserved
loop-c-preserved c =
    let held = c.loop-c.invariant in
    let parts = c.in-Some.ensures.steps.0 in (
      IsUtf8-past_char _ _ c.in-Some.c held.0 parts,
      rw c.in_ok-push.ensures.bytes (keeps_one _ _ _ _ c.in-Some.c c.loop-c.room held.0 parts c.if-room-eq0.false held.1),
    )

pub returns-then-room-eq0 : goal.returns-then-room-eq0
returns-then-room-eq0 c =
    let held = c.loop-c.invariant in
    let parts = c.in-Some.ensures.steps.0 in
    c.in_ok-push_str.ensures.bytes ∙ ends_short _ _ _ _ c.in-Some.c c.loop-c.room held.0 parts c.if-room-eq0.true held.1

pub returns : goal.returns
returns c = ends_whole _ _ _ c.loop-c.room c.in-None.ensures.steps.0.0 c.loop-c.invariant.1
